-- Joined lists as the code represents them: single tokens, and joined tokens whose bytes are in one buffer.
use Rattle.std.specs.Prelude.{ℕ, ◌≡◌, ◌<◌, ◌≤◌, Bool, false, List, [], ◌∷◌, ◌++◌, length, drop, Some, Err, IsTrue}
use Rattle.std.specs.Bool.{IsFalse}
use Rattle.rbg_macro.specs.declared.error.MacroError.{MacroError}
use Rattle.rbg_macro.specs.declared.joining.JoinedToken.{JoinedToken}
use Rattle.rbg_macro.specs.declared.joining.JoinedToken.TheVariants.{Single, Joined}
use Rattle.rbg_macro.specs.declared.token.TokenKind.{TokenKind}
use Rattle.rbg_macro.specs.Joining.{joined_from, joined_token}
use Rattle.rbg_macro.specs.Kinds.{is_symbol}
use Rattle.rbg_macro.specs.declared.token.Symbol.TheVariants as symbols
use Rattle.rbg_macro.specs.internal.Marks.{Word, word_of}
use Rattle.rbg_macro.specs.internal.Span.{lexeme_in, IsSpanWithin}
use Rattle.rbg_macro.specs.Token.{Lexeme}

abbrev pub joined_word : List ℕ → JoinedToken → Word
joined_word texts (Single t) = word_of t
joined_word texts (Joined s number) = record { lexeme = lexeme_in texts s; macro_number = number }

abbrev pub IsJoinedWithin : List ℕ → JoinedToken → Type 0
IsJoinedWithin texts (Single t) = Unit {0}
IsJoinedWithin texts (Joined s number) = IsSpanWithin texts s

-- whether the first token is `~`
abbrev pub begins_with_tilde : List Lexeme → Bool
begins_with_tilde [] = false
begins_with_tilde (t ∷ ts) = is_symbol symbols.Tilde t.kind

-- a token that is joined so far
abbrev pub word_at : ℕ → TokenKind → List ℕ → Lexeme
word_at at kind word = record { kind = kind; text = word; at = at }

-- the first token is `~`, and the second one continues the word
pub record JoinsNext (kind new_kind : TokenKind) (word new_word : List ℕ) (ts : List Lexeme) : Type 0 where
  pub tilde : Lexeme
  pub right : Lexeme
  pub tokens : ts ≡ tilde ∷ right ∷ drop 2 ts
  pub is_tilde : IsTrue (is_symbol symbols.Tilde tilde.kind)
  pub joins : (at : ℕ) → joined_token (word_at at kind word) right ≡ Some (word_at at new_kind new_word)

-- the first n tokens become one word of this kind
pub record JoinsChain (ts : List Lexeme) (kind : TokenKind) (word : List ℕ) (n : ℕ) : Type 0 where
  pub first : Lexeme
  pub rest : List Lexeme
  pub tokens : ts ≡ first ∷ rest
  pub joins : joined_from first rest ≡ joined_from (word_at first.at kind word) (drop n ts)
  pub some : 0 < n
  pub within : n ≤ length ts
  pub apart : IsFalse (begins_with_tilde (drop n ts))

-- joining the first token with those that follow fails
pub record FailsChain (ts : List Lexeme) (e : MacroError) : Type 0 where
  pub first : Lexeme
  pub rest : List Lexeme
  pub tokens : ts ≡ first ∷ rest
  pub fails : joined_from first rest ≡ Err e

-- the first n tokens were added as one
pub record AddsChain (old new : List Lexeme) (ts : List Lexeme) (n : ℕ) : Type 0 where
  pub kind : TokenKind
  pub word : List ℕ
  pub chain : JoinsChain ts kind word n
  pub added : new ≡ old ++ word_at chain.first.at kind word ∷ []
