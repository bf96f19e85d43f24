-- Phrases of a grammar, and how larger ones are made of them. A phrase relates a list of tokens to a value and to a
-- second list: the tokens of the first list up to the second one spell the value, and the second one is what follows.
use Rattle.std.specs.Prelude.{◌≡◌, ℕ, List, [], ◌∷◌, Option, Some}
use Rattle.rbg_base.specs.Decimals.{number_of_digits}
use Rattle.rbg_macro.specs.Token.{Lexeme}
use Rattle.rbg_macro.specs.declared.token.Symbol.{Symbol}
use Rattle.rbg_macro.specs.declared.token.Symbol.TheVariants as symbols
use Rattle.rbg_macro.specs.declared.token.TokenKind.{TokenKind}
use Rattle.rbg_macro.specs.declared.token.TokenKind.TheVariants as kinds
use Rattle.rbg_grammar.specs.Tree.{SpeltName, SpeltNumber}

abbrev pub Phrase : Type 0 → Type 1
Phrase A = List Lexeme → A → List Lexeme → Type 0

-- the next token is this symbol, and its place is the value
pub data IsSymbol (s : Symbol) : List Lexeme → ℕ → List Lexeme → Type 0 where
  symbol : {t : Lexeme} {rest : List Lexeme}
      → t.kind ≡ kinds.Symbol s
      → IsSymbol s (t ∷ rest) t.at rest

-- the next token is a name
pub data IsName : List Lexeme → SpeltName → List Lexeme → Type 0 where
  name : {t : Lexeme} {rest : List Lexeme}
      → t.kind ≡ kinds.Name
      → IsName (t ∷ rest) (record { text = t.text; at = t.at }) rest

-- the next token is a number
pub data IsNumber : List Lexeme → SpeltNumber → List Lexeme → Type 0 where
  number : {t : Lexeme} {rest : List Lexeme}
      → t.kind ≡ kinds.Number
      → IsNumber (t ∷ rest) (record { value = number_of_digits t.text; at = t.at }) rest

-- the next token is this word, and its place is the value
pub data IsWord (text : List ℕ) : List Lexeme → ℕ → List Lexeme → Type 0 where
  word : {t : Lexeme} {rest : List Lexeme}
      → t.kind ≡ kinds.Name
      → t.text ≡ text
      → IsWord text (t ∷ rest) t.at rest

-- the next token is of a kind to which the table gives this value
pub data IsOneOf {A : Type 0} (table : TokenKind → Option A) : List Lexeme → A → List Lexeme → Type 0 where
  one_of : {t : Lexeme} {rest : List Lexeme} {x : A}
      → table t.kind ≡ Some x
      → IsOneOf table (t ∷ rest) x rest

-- any number of phrases, one after the other
pub data Repeated {A : Type 0} (P : Phrase A) : List Lexeme → List A → List Lexeme → Type 0 where
  done : {ts : List Lexeme} → Repeated P ts [] ts
  again : {ts mid rest : List Lexeme} {x : A} {xs : List A}
      → P ts x mid
      → Repeated P mid xs rest
      → Repeated P ts (x ∷ xs) rest

-- a symbol, and then a phrase
pub data After {A : Type 0} (s : Symbol) (P : Phrase A) : List Lexeme → A → List Lexeme → Type 0 where
  after : {ts mid rest : List Lexeme} {at : ℕ} {x : A}
      → IsSymbol s ts at mid
      → P mid x rest
      → After s P ts x rest

-- at least one phrase, and the symbol between each two
pub data Separated {A : Type 0} (s : Symbol) (P : Phrase A) : List Lexeme → List A → List Lexeme → Type 0 where
  separated : {ts mid rest : List Lexeme} {x : A} {xs : List A}
      → P ts x mid
      → Repeated (After s P) mid xs rest
      → Separated s P ts (x ∷ xs) rest

-- any number of phrases, and a comma between each two
pub data Listed {A : Type 0} (P : Phrase A) : List Lexeme → List A → List Lexeme → Type 0 where
  nothing : {ts : List Lexeme} → Listed P ts [] ts
  listed : {ts rest : List Lexeme} {xs : List A}
      → Separated symbols.Comma P ts xs rest
      → Listed P ts xs rest

-- a phrase between two brackets
pub data Within {A : Type 0} (opening closing : Symbol) (P : Phrase A) : List Lexeme → A → List Lexeme → Type 0 where
  within : {ts first last rest : List Lexeme} {at end : ℕ} {x : A}
      → IsSymbol opening ts at first
      → P first x last
      → IsSymbol closing last end rest
      → Within opening closing P ts x rest

-- a phrase and the comma after it
pub data WithComma {A : Type 0} (P : Phrase A) : List Lexeme → A → List Lexeme → Type 0 where
  with_comma : {ts mid rest : List Lexeme} {at : ℕ} {x : A}
      → P ts x mid
      → IsSymbol symbols.Comma mid at rest
      → WithComma P ts x rest
