-- What some bytes begin with, as the scanner returns it: a blank, a comment, a token or a fault.
use Rattle.std.specs.Prelude.{ℕ, ◌≡◌, ◌+◌, ◌<◌, ◌≤◌, List, ◌∷◌, ◌++◌, length, take, drop, Result, Err}
use Rattle.rbg_macro.specs.declared.text_error.TextError.{TextError}
use Rattle.rbg_macro.specs.declared.text_error.TextError.TheVariants as text_errors
use Rattle.rbg_macro.specs.declared.lexer.Part.{Part}
use Rattle.rbg_macro.specs.declared.lexer.Part.TheVariants.{Skipped, Token, ZeroByte, BadByte}
use Rattle.rbg_macro.specs.declared.token.Symbol.{Symbol}
use Rattle.rbg_macro.specs.declared.token.TokenKind.{TokenKind}
use Rattle.rbg_macro.specs.Text.{Lexes, after_token}
use Rattle.rbg_macro.specs.Spelling.{spelling}
use Rattle.rbg_macro.specs.Token.{Lexeme}

-- the bytes begin with two slashes
abbrev pub BeginsComment : List ℕ → Type 0
BeginsComment bytes = (line : List ℕ) × (bytes ≡ 47 ∷ 47 ∷ line)

-- the bytes begin with the symbol, and with no longer one
pub record IsLongestSymbol (bytes : List ℕ) (symbol : Symbol) : Type 0 where
  pub stands : spelling symbol ++ drop (length (spelling symbol)) bytes ≡ bytes
  pub longest : (other : Symbol) (rest : List ℕ) → spelling other ++ rest ≡ bytes →
      length (spelling other) ≤ length (spelling symbol)

-- the bytes begin with no symbol of more than n bytes
abbrev pub BeginsNoSymbol : List ℕ → ℕ → Type 0
BeginsNoSymbol bytes n = (symbol : Symbol) (rest : List ℕ) → n < length (spelling symbol) →
    spelling symbol ++ rest ≡ bytes → ⊥

-- the first n bytes are a blank or a comment
pub record Skips (bytes : List ℕ) (n : ℕ) : Type 0 where
  pub some : 0 < n
  pub within : n ≤ length bytes
  pub reads : (at : ℕ) (read : Result (List Lexeme) TextError) → Lexes (at + n) (drop n bytes) read →
      Lexes at bytes read

-- the first n bytes are a token
pub record Takes (kind : TokenKind) (bytes : List ℕ) (n : ℕ) : Type 0 where
  pub some : 0 < n
  pub within : n ≤ length bytes
  pub reads : (at : ℕ) (read : Result (List Lexeme) TextError) → Lexes (at + n) (drop n bytes) read →
      Lexes at bytes (after_token (record { kind = kind; text = take n bytes; at = at }) read)

abbrev pub IsPart : List ℕ → Part → Type 0
IsPart bytes (Skipped n) = Skips bytes n
IsPart bytes (Token kind n) = Takes kind bytes n
IsPart bytes ZeroByte = (at : ℕ) → Lexes at bytes (Err text_errors.ZeroByte)
IsPart bytes BadByte = (at : ℕ) → Lexes at bytes (Err (text_errors.BadByte at))
