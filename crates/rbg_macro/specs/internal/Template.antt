-- Macros and their bodies as the code represents them.
use Rattle.std.specs.Prelude.{ℕ, ◌≡◌, List, map, Some}
use Rattle.std.specs.Borrow.{Bor}
use Rattle.rbg_macro.specs.declared.macros.BodyItem.{BodyItem as KeptItem}
use Rattle.rbg_macro.specs.declared.macros.BodyItem.TheVariants as kept
use Rattle.rbg_macro.specs.declared.macros.Template.{Template}
use Rattle.rbg_macro.specs.declared.read_token.ReadToken.{ReadToken}
use Rattle.rbg_macro.specs.Macro.{Macro, BodyItem, Word, Place, macro_named}
use Rattle.rbg_macro.specs.internal.ReadTokens.{read_lexeme}
use Rattle.rbg_macro.specs.Token.{Lexeme}

abbrev pub item_in : KeptItem → BodyItem
item_in (kept.Word t) = Word (read_lexeme t)
item_in (kept.Place k) = Place k

abbrev pub macro_of : List ℕ → Template → Macro
macro_of name t = record { name = name; parameters = t.parameters; body = map item_in t.body.items }

abbrev pub macro_in : Bor (List ℕ) × Template → Macro
macro_in e = macro_of e.0.now e.1

-- the texts after references
abbrev pub texts_in : List (Bor (List ℕ)) → List (List ℕ)
texts_in texts = map (λ t. t.now) texts

-- the tokens of the lists after references
abbrev pub lists_in : List (Bor (List ReadToken)) → List (List Lexeme)
lists_in lists = map (λ l. map read_lexeme l.now) lists

-- the token names a macro with this template
pub record IsNamed (macros : List Macro) (t : Lexeme) (template : Template) : Type 0 where
  pub name : List ℕ
  pub named : macro_named macros t ≡ Some (macro_of name template)
