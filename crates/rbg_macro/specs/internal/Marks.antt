-- Tokens that carry the number of the macro that they name.
use Rattle.std.specs.Prelude.{ℕ, ◌≡◌, List, map, Option, None, Some, MatchOption, slice_get}
use Rattle.std.specs.Borrow.{Bor}
use Rattle.std.specs.List.{All}
use Rattle.rbg_macro.specs.declared.macros.BodyItem.{BodyItem as KeptItem}
use Rattle.rbg_macro.specs.declared.macros.BodyItem.TheVariants as kept
use Rattle.rbg_macro.specs.declared.macros.Template.{Template}
use Rattle.rbg_macro.specs.declared.read_token.ReadToken.{ReadToken}
use Rattle.rbg_macro.specs.Macro.{Macro, macro_named}
use Rattle.rbg_macro.specs.internal.Template.{macro_of, item_in}
use Rattle.rbg_macro.specs.internal.ReadTokens.{read_lexeme}
use Rattle.rbg_macro.specs.Token.{Lexeme}

-- a token and its mark
pub record Word : Type 0 where
  pub lexeme : Lexeme
  pub macro_number : Option ℕ

-- the token without its mark
abbrev pub lexeme_in_word : Word → Lexeme
lexeme_in_word w = w.lexeme

abbrev pub word_of : ReadToken → Word
word_of t = record { lexeme = read_lexeme t; macro_number = t.macro_number }

-- The token names the macro with this number. The name itself is left open, since equal bytes may be at two places in
-- memory.
pub record IsNumberOf (macros : List Macro) (t : Lexeme) (n : ℕ) : Type 0 where
  pub name : List ℕ
  pub numbered : Macro
  pub stands : slice_get macros n ≡ Some numbered
  pub named : macro_named macros t ≡ Some (record numbered { name = name })

-- the mark is the number of the macro that the token names, and is missing if it names none
pub record IsMarkedWord (macros : List Macro) (w : Word) : Type 0 where
  pub mark : MatchOption w.macro_number (macro_named macros w.lexeme ≡ None) (IsNumberOf macros w.lexeme)

abbrev pub IsMarked : List Macro → ReadToken → Type 0
IsMarked macros t = IsMarkedWord macros (word_of t)

abbrev pub IsMarkedItem : List Macro → KeptItem → Type 0
IsMarkedItem macros (kept.Word t) = IsMarked macros t
IsMarkedItem macros (kept.Place k) = Unit {0}

-- the template is that of the macro, and its tokens are marked
pub record IsMarkedTemplate (macros : List Macro) (m : Macro) (template : Template) : Type 0 where
  pub parameters : template.parameters ≡ m.parameters
  pub body : map item_in template.body.items ≡ m.body
  pub marked : All (IsMarkedItem macros) template.body.items

-- the macro with this number has this template
pub record IsTemplateAt (macros : List Macro) (n : ℕ) (template : Template) : Type 0 where
  pub name : List ℕ
  pub stands : slice_get macros n ≡ Some (macro_of name template)

-- in each of the lists every token is marked
abbrev pub AreMarkedLists : List Macro → List (Bor (List ReadToken)) → Type 0
AreMarkedLists macros lists = All (λ l. All (IsMarked macros) l.now) lists

-- the lists are cut from tokens, and if those are marked these are
pub record KeepsMarks (tokens : List ReadToken) (lists : List (Bor (List ReadToken))) : Type 0 where
  pub keeps : (macros : List Macro) → All (IsMarked macros) tokens → AreMarkedLists macros lists

-- the tokens are made of items and arguments, and if those are marked these are
pub record FillsMarks (body : List KeptItem) (arguments : List (Bor (List ReadToken))) (tokens : List ReadToken) : Type 0 where
  pub fills : (macros : List Macro) → All (IsMarkedItem macros) body → AreMarkedLists macros arguments →
      All (IsMarked macros) tokens
