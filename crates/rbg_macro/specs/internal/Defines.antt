-- Sections and macros as the code represents them while it reads definitions.
use Rattle.std.specs.Prelude.{ℕ, ◌≡◌, IsTrue, List, [], ◌∷◌, ◌++◌, length, drop, map, Ok}
use Rattle.rbg_macro.specs.declared.definition.Definitions.{Definitions as KeptDefinitions}
use Rattle.rbg_macro.specs.declared.definition.SectionBody.{SectionBody}
use Rattle.rbg_macro.specs.declared.macros.Template.{Template}
use Rattle.rbg_macro.specs.Definition.{Definitions, Defined, A_Section, A_Macro, Part, beyond_name, defined, is_new_name}
use Rattle.rbg_macro.specs.Macro.{body_of}
use Rattle.rbg_macro.specs.internal.Template.{item_in}
use Rattle.rbg_macro.specs.Kinds.{is_symbol}
use Rattle.rbg_macro.specs.declared.token.Symbol.TheVariants as symbols
use Rattle.rbg_macro.specs.Token.{Lexeme, lexeme_of}
use Rattle.rbg_macro.specs.Sections.{SectionTokens}

abbrev pub section_of : SectionBody → SectionTokens
section_of s = record { kind = s.kind; at = s.at; tokens = map lexeme_of s.tokens.now }

abbrev pub defines_of : KeptDefinitions → Definitions
defines_of ds = record { sections = map section_of ds.sections.items; macros = ds.macros }

-- the definitions with one more at the end
abbrev pub with_one_more : Definitions → Defined → Definitions
with_one_more ds (A_Section s) = record ds { sections = ds.sections ++ s ∷ [] }
with_one_more ds (A_Macro m) = record ds { macros = ds.macros ++ m ∷ [] }

-- what the part defines was added
pub record AddsDefined (old new : Definitions) (part : Part) : Type 0 where
  pub what : Defined
  pub defines : defined old.macros part ≡ Ok what
  pub added : new ≡ with_one_more old what

-- the first token is a new parameter, and there is a second token
pub record AddsParameter (earlier parameters : List (List ℕ)) (ts : List Lexeme) (next : Lexeme) : Type 0 where
  pub parameter : Lexeme
  pub tokens : ts ≡ parameter ∷ next ∷ drop 2 ts
  pub new : IsTrue (is_new_name earlier parameter)
  pub added : parameters ≡ earlier ++ parameter.text ∷ []

-- the parameters and the body after a macro's name, as they are kept
pub record IsTemplateAfter (end : ℕ) (ts : List Lexeme) (template : Template) : Type 0 where
  pub parameters : List (List ℕ)
  pub body : List Lexeme
  pub beyond : beyond_name end ts ≡ Ok (parameters, body)
  pub many : template.parameters ≡ length parameters
  pub filled : map item_in template.body.items ≡ body_of parameters body

-- the first token, if there is one, is a `#`
abbrev pub BeginsDefinition : List Lexeme → Type 0
BeginsDefinition [] = Unit {0}
BeginsDefinition (t ∷ ts) = IsTrue (is_symbol symbols.Hash t.kind)
