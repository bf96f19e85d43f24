-- If a section of a board is defined, `#board` is in the text.
use Rattle.rbg_base.proofs.Common.{◌≡◌, ℕ, zero, suc, ◌+◌, ◌||◌, ◌⊎◌, inl, inr, Bool, true, false, cond, List, [], ◌∷◌, ◌++◌, length, take, slice_get, Option, Some, None, Result, Ok, Err, codes, refl, ap, ◌∙◌, arith, list_any, position_or_len, bytes_eq, false≢true, none-some, same_Some, bytes_eq-Decides}
use Rattle.rbg_grammar.proofs.Common.{same_kind, sections_of, HasSection}
use Rattle.rbg_macro.proofs.Common.{Definitions, Defined, A_Section, A_Macro, Part, after_equals, beyond_name, defined, defined_as, definitions, definitions_of, expect, is_hash_token, part_of, parts, section_named, with_defined, with_section, ExpandsAll, none, one_more, HasSections, Macro, body_of, SectionTokens, ◌>>=◌}
use Rattle.rbg_macro.specs.declared.error.MacroError.{MacroError}
use Rattle.rbg_macro.specs.declared.error.MacroError.TheVariants.{BadDefinition, Twice}
use Rattle.rbg_macro.specs.declared.source.SectionKind.{SectionKind}
use Rattle.rbg_macro.specs.declared.source.SectionKind.TheVariants.{Players, Pieces, Variables, Board, Rules}
use Rattle.rbg_macro.proofs.TextCommon.{is_name_kind, is_symbol, Lexeme}
use Rattle.rbg_macro.specs.declared.token.Symbol.TheVariants as symbols
use Rattle.rbg_position.specs.Boards.{BeginsBoard}

-- whether a section of a board is among these
abbrev has_board : List SectionTokens → Bool
has_board sections = list_any (λ s. same_kind s.kind Board) sections

or_here : (test others : Bool) (s section : SectionTokens) (found rest : List SectionTokens) → (found ≡ section ∷ rest → others ≡ true) → cond test (s ∷ found) found ≡ section ∷ rest → (test || others) ≡ true
or_here true others s section found rest further is = refl
or_here false others s section found rest further is = further is

found_there : (sections : List SectionTokens) (section : SectionTokens) (rest : List SectionTokens) → sections_of Board sections ≡ section ∷ rest → has_board sections ≡ true
found_there [] section rest is = let one : 0 ≡ length (section ∷ rest) = ap length is in absurd (omega (arith, one))
found_there (s ∷ sections) section rest is = or_here (same_kind s.kind Board) (has_board sections) s section (sections_of Board sections) rest (found_there sections section rest) is

or_more : (test before after : Bool) → (after ≡ true → before ≡ true) → (test || after) ≡ true → (test || before) ≡ true
or_more true before after further is = refl
or_more false before after further is = further is

-- expansion keeps the kinds of sections
board_before : (macros : List Macro) (ss ts : List SectionTokens) (n : ℕ) → ExpandsAll macros ss ts n → has_board ts ≡ true → has_board ss ≡ true
board_before macros _ _ _ none is = is
board_before macros _ _ _ (one_more s us m ss ts n expands others) is =
    or_more (same_kind s.kind Board) (has_board ss) (has_board ts) (board_before macros ss ts n others) is

-- A name is that of the board's section.
chosen : (players pieces variables board rules : Bool) (kind : SectionKind)
    → cond players (Some Players) (cond pieces (Some Pieces) (cond variables (Some Variables) (cond board (Some Board) (cond rules (Some Rules) None)))) ≡ Some kind
    → same_kind kind Board ≡ true → board ≡ true
chosen true b c d e kind is same = absurd (false≢true (ap (λ k. same_kind k Board) (same_Some Players kind is) ∙ same))
chosen false true c d e kind is same = absurd (false≢true (ap (λ k. same_kind k Board) (same_Some Pieces kind is) ∙ same))
chosen false false true d e kind is same = absurd (false≢true (ap (λ k. same_kind k Board) (same_Some Variables kind is) ∙ same))
chosen false false false true e kind is same = refl
chosen false false false false true kind is same = absurd (false≢true (ap (λ k. same_kind k Board) (same_Some Rules kind is) ∙ same))
chosen false false false false false kind is same = absurd (none-some kind is)

named_board : (name : List ℕ) (kind : SectionKind) → section_named name ≡ Some kind → same_kind kind Board ≡ true → name ≡ codes "board"
named_board name kind is same =
    (bytes_eq-Decides name (codes "board")).0
    (chosen (bytes_eq name (codes "players")) (bytes_eq name (codes "pieces")) (bytes_eq name (codes "variables")) (bytes_eq name (codes "board")) (bytes_eq name (codes "rules")) kind is same)

-- what a part defines is a section of a board
abbrev defines_board : Result Defined MacroError → Bool
defines_board (Ok (A_Section s)) = same_kind s.kind Board
defines_board (Ok (A_Macro m)) = false
defines_board (Err e) = false

-- The part begins with `board`.
record BeginsPart (tokens : List Lexeme) : Type 0 where
  name : Lexeme
  rest : List Lexeme
  whole : tokens ≡ name ∷ rest
  is_board : name.text ≡ codes "board"

section_kind : (kind : SectionKind) (at : ℕ) (body : Result (List Lexeme) MacroError) → defines_board (body >>= λ ts. Ok (A_Section (record { kind = kind; at = at; tokens = ts }))) ≡ true → same_kind kind Board ≡ true
section_kind kind at (Ok ts) is = is
section_kind kind at (Err e) is = absurd (false≢true is)

no_macro : (twice : Bool) (name : List ℕ) (e : MacroError) (found : Result (List (List ℕ) × List Lexeme) MacroError)
    → defines_board (cond twice (Err e) (found >>= λ f. Ok (A_Macro (record { name = name; parameters = length f.0; body = body_of f.0 f.1 })))) ≡ true → ⊥
no_macro true name e found is = false≢true is
no_macro false name e (Ok f) is = false≢true is
no_macro false name e (Err f) is = false≢true is

section_there : (earlier : List Macro) (p : Part) (t : Lexeme) (ts : List Lexeme) (kind : Option SectionKind) → section_named t.text ≡ kind → defines_board (defined_as earlier p t ts kind) ≡ true → t.text ≡ codes "board"
section_there earlier p t ts (Some kind) named is = named_board t.text kind named (section_kind kind p.at (after_equals p.end ts) is)
section_there earlier p t ts None named is =
    absurd (no_macro (list_any (λ (m : Macro). bytes_eq t.text m.name) earlier) t.text (Twice t.at) (beyond_name p.end ts) is)

name_there : (earlier : List Macro) (p : Part) (t : Lexeme) (ts : List Lexeme) (test : Bool)
    → defines_board (◌>>=◌ {A = Lexeme × List Lexeme} (cond test (Ok (t, ts)) (Err (BadDefinition t.at))) (λ found. defined_as earlier p found.0 found.1 (section_named found.0.text))) ≡ true → t.text ≡ codes "board"
name_there earlier p t ts true is = section_there earlier p t ts (section_named t.text) refl is
name_there earlier p t ts false is = absurd (false≢true is)

begins_part : (earlier : List Macro) (p : Part) (tokens : List Lexeme)
    → defines_board (expect (λ t. is_name_kind t.kind) p.end tokens >>= λ found. defined_as earlier p found.0 found.1 (section_named found.0.text)) ≡ true → BeginsPart tokens
begins_part earlier p [] is = absurd (false≢true is)
begins_part earlier p (t ∷ ts) is = record { name = t; rest = ts; whole = refl; is_board = name_there earlier p t ts (is_name_kind t.kind) is }

-- some part begins in this way
abbrev SomeBegins : List Part → Type 0
SomeBegins [] = ⊥
SomeBegins (p ∷ ps) = BeginsPart p.tokens ⊎ SomeBegins ps

abbrev has_defined : Result Definitions MacroError → Bool
has_defined (Ok ds) = has_board ds.sections
has_defined (Err e) = false

or_cases : (a b : Bool) → (a || b) ≡ true → (a ≡ true) ⊎ (b ≡ true)
or_cases true b is = inl refl
or_cases false b is = inr is

section_or : (s : SectionTokens) (others : Result Definitions MacroError) → has_defined (with_section s others) ≡ true → (same_kind s.kind Board ≡ true) ⊎ (has_defined others ≡ true)
section_or s (Ok ds) is = or_cases (same_kind s.kind Board) (has_board ds.sections) is
section_or s (Err e) is = absurd (false≢true is)

part_or : (earlier : List Macro) (p : Part) (ps : List Part) (d : Result Defined MacroError) → ((macros : List Macro) → has_defined (definitions macros ps) ≡ true → SomeBegins ps)
    → (defines_board d ≡ true → BeginsPart p.tokens) → has_defined (with_defined earlier d (λ macros. definitions macros ps)) ≡ true → BeginsPart p.tokens ⊎ SomeBegins ps
part_or earlier p ps (Ok (A_Section s)) others here is = either (section_or s (definitions earlier ps) is)
  where
    either : (same_kind s.kind Board ≡ true) ⊎ (has_defined (definitions earlier ps) ≡ true) → BeginsPart p.tokens ⊎ SomeBegins ps
    either (inl board) = inl (here board)
    either (inr later) = inr (others earlier later)
part_or earlier p ps (Ok (A_Macro m)) others here is = inr (others (earlier ++ m ∷ []) is)
part_or earlier p ps (Err e) others here is = absurd (false≢true is)

some_begins : (earlier : List Macro) (ps : List Part) → has_defined (definitions earlier ps) ≡ true → SomeBegins ps
some_begins earlier [] is = absurd (false≢true is)
some_begins earlier (p ∷ ps) is = part_or earlier p ps (defined earlier p) (λ macros later. some_begins macros ps later) (begins_part earlier p p.tokens) is

-- `#board` is at some place
abbrev pub Begins : List Lexeme → Type 0
Begins tokens = (at : ℕ) × BeginsBoard tokens at

later_begins : (t : Lexeme) (ts : List Lexeme) → Begins ts → Begins (t ∷ ts)
later_begins t ts (at, b) =
    let next : suc at + 1 ≡ suc (at + 1) = omega arith in
    (suc at, record { hash = b.hash; name = b.name; at_hash = b.at_hash; at_name = ap (slice_get (t ∷ ts)) next ∙ b.at_name; is_hash = b.is_hash; is_board = b.is_board })

first_taken : (n : ℕ) (ts : List Lexeme) (name : Lexeme) → slice_get (take n ts) 0 ≡ Some name → slice_get ts 0 ≡ Some name
first_taken zero ts name is = absurd (none-some name is)
first_taken (suc n) [] name is = is
first_taken (suc n) (t ∷ ts) name is = is

here_begins : (t : Lexeme) (ts : List Lexeme) → is_symbol symbols.Hash t.kind ≡ true → BeginsPart (part_of t ts).tokens → Begins (t ∷ ts)
here_begins t ts hash b =
    (0, record { hash = t; name = b.name; at_hash = refl; at_name = first_taken (position_or_len is_hash_token ts) ts b.name (ap (λ us. slice_get us 0) b.whole); is_hash = hash; is_board = b.is_board })

hash_or : (t : Lexeme) (ts : List Lexeme) (test : Bool) → is_symbol symbols.Hash t.kind ≡ test → (SomeBegins (parts ts) → Begins ts) → SomeBegins (cond test (part_of t ts ∷ parts ts) (parts ts)) → Begins (t ∷ ts)
hash_or t ts true hash others (inl here) = here_begins t ts hash here
hash_or t ts true hash others (inr later) = later_begins t ts (others later)
hash_or t ts false hash others later = later_begins t ts (others later)

begins_in : (ts : List Lexeme) → SomeBegins (parts ts) → Begins ts
begins_in [] some = absurd some
begins_in (t ∷ ts) some = hash_or t ts (is_symbol symbols.Hash t.kind) refl (begins_in ts) some

defined_begins : (t : Lexeme) (ts : List Lexeme) (test : Bool) → has_defined (cond test (definitions [] (parts (t ∷ ts))) (Err (BadDefinition t.at))) ≡ true → Begins (t ∷ ts)
defined_begins t ts true is = begins_in (t ∷ ts) (some_begins [] (parts (t ∷ ts)) is)
defined_begins t ts false is = absurd (false≢true is)

begins_of : (tokens : List Lexeme) → has_defined (definitions_of tokens) ≡ true → Begins tokens
begins_of [] is = absurd (false≢true is)
begins_of (t ∷ ts) is = defined_begins t ts (is_symbol symbols.Hash t.kind) is

pub board_begins : (tokens ts : List Lexeme) (sections : List SectionTokens) → HasSections tokens sections → HasSection sections Board ts → Begins tokens
board_begins tokens ts sections expanded has =
    let there : has_board expanded.definitions.sections ≡ true =
    board_before expanded.definitions.macros expanded.definitions.sections sections expanded.expanded.read expanded.expanded.expands (found_there sections has.section [] has.only) in
    begins_of tokens (ap has_defined expanded.defined ∙ there)
