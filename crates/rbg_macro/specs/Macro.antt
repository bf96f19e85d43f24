-- Macros: a name, parameters, and a body in which the arguments of a call take the parameters' places.
use Rattle.std.specs.Prelude.{ℕ, List, [], ◌∷◌, Option, None, Some, cond, position, slice_get, find, unwrap_or, map}
use Rattle.std.specs.List.{flat_map}
use Rattle.std.specs.Str.{bytes_eq}
use Rattle.rbg_macro.specs.Kinds.{is_name_kind}
use Rattle.rbg_macro.specs.Token.{Lexeme}

-- what a body is made of: its own tokens, and the places where an argument is put
pub data BodyItem : Type 0 where
  Word : Lexeme → BodyItem
  Place : ℕ → BodyItem

-- a macro: its name, how many parameters it has, and its body
pub record Macro : Type 0 where
  pub name : List ℕ
  pub parameters : ℕ
  pub body : List BodyItem

-- the parameter that a token names
abbrev pub parameter_named : List (List ℕ) → Lexeme → Option ℕ
parameter_named parameters t = cond (is_name_kind t.kind) (position (bytes_eq t.text) parameters) None

abbrev pub word_or_place : Lexeme → Option ℕ → BodyItem
word_or_place t None = Word t
word_or_place t (Some k) = Place k

-- a token whose whole text is a parameter's name is a place of that parameter's argument
abbrev pub item_of : List (List ℕ) → Lexeme → BodyItem
item_of parameters t = word_or_place t (parameter_named parameters t)

-- the body of a macro with these parameters
abbrev pub body_of : List (List ℕ) → List Lexeme → List BodyItem
body_of parameters tokens = map (item_of parameters) tokens

-- an item with the arguments put in
abbrev pub filled_item : List (List Lexeme) → BodyItem → List Lexeme
filled_item arguments (Word t) = t ∷ []
filled_item arguments (Place k) = unwrap_or (slice_get arguments k) []

-- the body with the arguments put in
abbrev pub filled : List BodyItem → List (List Lexeme) → List Lexeme
filled body arguments = flat_map (filled_item arguments) body

-- the macro that a token names
abbrev pub macro_named : List Macro → Lexeme → Option Macro
macro_named macros t = cond (is_name_kind t.kind) (find (λ m. bytes_eq t.text m.name) macros) None
