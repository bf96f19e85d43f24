-- Definitions: the sections and macros that tokens define, and the first fault in a head.
use Rattle.std.specs.Prelude.{ℕ, Bool, ◌&&◌, not, List, [], ◌∷◌, ◌++◌, take, drop, Option, None, Some}
use Rattle.std.specs.Prelude.{Result, Ok, Err, cond, codes, length}
use Rattle.std.specs.List.{list_any, position_or_len}
use Rattle.std.specs.Str.{bytes_eq}
use Rattle.rbg_macro.specs.declared.error.MacroError.{MacroError}
use Rattle.rbg_macro.specs.declared.error.MacroError.TheVariants.{BadDefinition, Twice}
use Rattle.rbg_macro.specs.declared.source.SectionKind.{SectionKind}
use Rattle.rbg_macro.specs.declared.source.SectionKind.TheVariants.{Players, Pieces, Variables, Board, Rules}
use Rattle.rbg_macro.specs.Steps.{◌>>=◌}
use Rattle.rbg_macro.specs.Kinds.{is_name_kind, is_symbol}
use Rattle.rbg_macro.specs.declared.token.Symbol.TheVariants as symbols
use Rattle.rbg_macro.specs.Macro.{Macro, body_of}
use Rattle.rbg_macro.specs.Token.{Lexeme}
use Rattle.rbg_macro.specs.Sections.{SectionTokens}

-- the tokens from one `#` up to the next
pub record Part : Type 0 where
  -- the offset of the `#`
  pub at : ℕ
  -- what comes after it
  pub tokens : List Lexeme
  -- the place of the error for a head that these tokens leave unfinished: the next `#`, or the head's own if the text
  -- ended
  pub end : ℕ

abbrev pub is_hash_token : Lexeme → Bool
is_hash_token t = is_symbol symbols.Hash t.kind

-- the offset of the first token, if there is one
abbrev pub first_at : List Lexeme → ℕ → ℕ
first_at [] at = at
first_at (t ∷ ts) at = t.at

-- the tokens are cut before each `#`
abbrev pub part_of : Lexeme → List Lexeme → Part
part_of t ts = record {
  at = t.at;
  tokens = take (position_or_len is_hash_token ts) ts;
  end = first_at (drop (position_or_len is_hash_token ts) ts) t.at;
}

abbrev pub parts : List Lexeme → List Part
parts [] = []
parts (t ∷ ts) = cond (is_symbol symbols.Hash t.kind) (part_of t ts ∷ parts ts) (parts ts)

-- the next token of a head and what follows it, if the token passes the test; else the fault is at that token
abbrev pub expect : (TokenTest : Lexeme → Bool) → ℕ → List Lexeme → Result (Lexeme × List Lexeme) MacroError
expect fits end [] = Err (BadDefinition end)
expect fits end (t ∷ ts) = cond (fits t) (Ok (t, ts)) (Err (BadDefinition t.at))

-- what follows the next token of a head, which is `=`
abbrev pub after_equals : ℕ → List Lexeme → Result (List Lexeme) MacroError
after_equals end ts = expect (λ e. is_symbol symbols.Equals e.kind) end ts >>= λ found. Ok found.1

-- a parameter: a name other than the earlier ones
abbrev pub is_new_name : List (List ℕ) → Lexeme → Bool
is_new_name earlier t = is_name_kind t.kind && not (list_any (bytes_eq t.text) earlier)

-- parameters after `(`: names with `;` between them and `)` after the last
abbrev pub parameter_list : ℕ → List (List ℕ) → List Lexeme → Result (List (List ℕ) × List Lexeme) MacroError
parameter_list end earlier [] = Err (BadDefinition end)
parameter_list end earlier (p ∷ []) = cond (is_new_name earlier p) (Err (BadDefinition end)) (Err (BadDefinition p.at))
parameter_list end earlier (p ∷ t ∷ ts) =
    cond (is_new_name earlier p)
    (cond (is_symbol symbols.CloseParenthesis t.kind) (Ok (earlier ++ p.text ∷ [], ts))
    (cond (is_symbol symbols.Semicolon t.kind) (parameter_list end (earlier ++ p.text ∷ []) ts) (Err (BadDefinition t.at))))
    (Err (BadDefinition p.at))

-- a macro's parameters and body, after its name: `=` and the body, or parameters in parentheses before these
abbrev pub beyond_name : ℕ → List Lexeme → Result (List (List ℕ) × List Lexeme) MacroError
beyond_name end [] = Err (BadDefinition end)
beyond_name end (t ∷ ts) =
    cond (is_symbol symbols.Equals t.kind) (Ok ([], ts))
    (cond (is_symbol symbols.OpenParenthesis t.kind)
    (parameter_list end [] ts >>= λ listed. after_equals end listed.1 >>= λ body. Ok (listed.0, body))
    (Err (BadDefinition t.at)))

-- the names of the sections
abbrev pub section_named : List ℕ → Option SectionKind
section_named name =
    cond (bytes_eq name (codes "players")) (Some Players)
    (cond (bytes_eq name (codes "pieces")) (Some Pieces)
    (cond (bytes_eq name (codes "variables")) (Some Variables)
    (cond (bytes_eq name (codes "board")) (Some Board)
    (cond (bytes_eq name (codes "rules")) (Some Rules) None))))

-- what a part defines: a section, or a macro
pub data Defined : Type 0 where
  A_Section : SectionTokens → Defined
  A_Macro : Macro → Defined

-- a name that names no section names a macro, which no earlier one may be
abbrev pub defined_as : List Macro → Part → Lexeme → List Lexeme → Option SectionKind → Result Defined MacroError
defined_as earlier part name ts (Some kind) =
    after_equals part.end ts >>= λ body. Ok (A_Section (record { kind = kind; at = part.at; tokens = body }))
defined_as earlier part name ts None =
    cond (list_any (λ m. bytes_eq name.text m.name) earlier) (Err (Twice name.at))
    (beyond_name part.end ts >>= λ found.
    Ok (A_Macro (record { name = name.text; parameters = length found.0; body = body_of found.0 found.1 })))

abbrev pub defined : List Macro → Part → Result Defined MacroError
defined earlier part =
    expect (λ t. is_name_kind t.kind) part.end part.tokens >>= λ found. defined_as earlier part found.0 found.1
    (section_named found.0.text)

-- the sections with their own tokens in order of the text, and all macros
pub record Definitions : Type 0 where
  pub sections : List SectionTokens
  pub macros : List Macro

abbrev pub with_section : SectionTokens → Result Definitions MacroError → Result Definitions MacroError
with_section s (Ok ds) = Ok (record ds { sections = s ∷ ds.sections })
with_section s (Err e) = Err e

abbrev pub with_defined : List Macro → Result Defined MacroError →
    (List Macro → Result Definitions MacroError) → Result Definitions MacroError
with_defined earlier (Ok (A_Section s)) go_on = with_section s (go_on earlier)
with_defined earlier (Ok (A_Macro m)) go_on = go_on (earlier ++ m ∷ [])
with_defined earlier (Err e) go_on = Err e

-- what the parts define, read in order after these macros
abbrev pub definitions : List Macro → List Part → Result Definitions MacroError
definitions earlier [] = Ok (record { sections = []; macros = earlier })
definitions earlier (p ∷ ps) = with_defined earlier (defined earlier p) (λ macros. definitions macros ps)

-- what tokens define; a token before the first `#` belongs to no definition
abbrev pub definitions_of : List Lexeme → Result Definitions MacroError
definitions_of [] = Ok (record { sections = []; macros = [] })
definitions_of (t ∷ ts) = cond (is_symbol symbols.Hash t.kind) (definitions [] (parts (t ∷ ts))) (Err (BadDefinition t.at))
