-- What the bytes of a text spell: blanks, comments and tokens. Each token is the longest at its place.
use Rattle.std.specs.Prelude.{ℕ, ◌≡◌, ◌≢◌, ◌+◌, ◌<◌, ◌≤◌, Bool, false, ◌&&◌, ◌||◌, ◌==◌, not, List, [], ◌∷◌, ◌++◌}
use Rattle.std.specs.Prelude.{length, Result, Ok, Err, IsTrue, codes}
use Rattle.std.specs.List.{list_all}
use Rattle.rbg_macro.specs.declared.text_error.TextError.{TextError}
use Rattle.rbg_macro.specs.declared.text_error.TextError.TheVariants.{TooLong, ZeroByte, BadByte, Memory}
use Rattle.rbg_macro.specs.declared.token.TokenKind.{TokenKind}
use Rattle.rbg_macro.specs.TextLimits.{longest_text}
use Rattle.rbg_macro.specs.Spelling.{Spells}
use Rattle.rbg_macro.specs.Token.{Lexeme}

-- space, tab, carriage return and line feed
abbrev pub is_blank : ℕ → Bool
is_blank b = b == 32 || b == 9 || b == 13 || b == 10

-- a byte of a comment: neither the end of its line nor zero
abbrev pub is_comment_byte : ℕ → Bool
is_comment_byte b = not (b == 10) && not (b == 0)

-- a comment, as far as it was read
pub record IsComment (word : List ℕ) (line : List ℕ) : Type 0 where
  pub begins : word ≡ codes "//" ++ line
  pub goes_on : IsTrue (list_all is_comment_byte line)

-- a line ends before a line feed or with the text
abbrev pub IsLineEnd : List ℕ → Type 0
IsLineEnd [] = Unit {0}
IsLineEnd (b ∷ bs) = b ≡ 10

-- of the bytes `word ++ rest` the word is the longest front that is a token, and no comment begins there
pub record IsToken (kind : TokenKind) (word rest : List ℕ) : Type 0 where
  pub spelt : Spells kind word
  pub longest : (k : TokenKind) (longer after : List ℕ) → Spells k longer → longer ++ after ≡ word ++ rest →
      length longer ≤ length word
  pub no_comment : (line : List ℕ) → word ++ rest ≡ codes "//" ++ line → ⊥

-- no front of the bytes is a token
abbrev pub BeginsNoToken : List ℕ → Type 0
BeginsNoToken bytes = (k : TokenKind) (word rest : List ℕ) → Spells k word → word ++ rest ≡ bytes → ⊥

-- the tokens with one more before them
abbrev pub after_token : Lexeme → Result (List Lexeme) TextError → Result (List Lexeme) TextError
after_token t (Ok ts) = Ok (t ∷ ts)
after_token t (Err e) = Err e

-- What the bytes from the offset `at` on give, by their first part: the tokens in order, or the first fault.
pub data Lexes : ℕ → List ℕ → Result (List Lexeme) TextError → Type 0 where
  end : (at : ℕ) → Lexes at [] (Ok [])
  blank : (at b : ℕ) (rest : List ℕ) (read : Result (List Lexeme) TextError) →
      IsTrue (is_blank b) → Lexes (at + 1) rest read → Lexes at (b ∷ rest) read
  comment : (at : ℕ) (bytes word line rest : List ℕ) (read : Result (List Lexeme) TextError) →
      bytes ≡ word ++ rest → IsComment word line → IsLineEnd rest → Lexes (at + length word) rest read →
      Lexes at bytes read
  token : (at : ℕ) (kind : TokenKind) (bytes word rest : List ℕ) (read all : Result (List Lexeme) TextError) →
      bytes ≡ word ++ rest → IsToken kind word rest → Lexes (at + length word) rest read →
      all ≡ after_token (record { kind = kind; text = word; at = at }) read → Lexes at bytes all
  zero_byte : (at : ℕ) (rest : List ℕ) → Lexes at (0 ∷ rest) (Err ZeroByte)
  zero_in_comment : (at : ℕ) (bytes word line rest : List ℕ) →
      bytes ≡ word ++ 0 ∷ rest → IsComment word line → Lexes at bytes (Err ZeroByte)
  bad_byte : (at b : ℕ) (rest : List ℕ) →
      b ≢ 0 → is_blank b ≡ false → BeginsNoToken (b ∷ rest) → Lexes at (b ∷ rest) (Err (BadByte at))

-- the text isn't too long, and these are its tokens
pub record HasTokens (text : List ℕ) (ts : List Lexeme) : Type 0 where
  pub fits : length text ≤ longest_text
  pub read : Lexes 0 text (Ok ts)

-- the text isn't too long, and this is its first fault
pub record HasFirstFault (text : List ℕ) (e : TextError) : Type 0 where
  pub fits : length text ≤ longest_text
  pub read : Lexes 0 text (Err e)

-- the text is too long, or has this first fault; memory may run out at any text
abbrev pub HasTextFault : List ℕ → TextError → Type 0
HasTextFault text TooLong = longest_text < length text
HasTextFault text ZeroByte = HasFirstFault text ZeroByte
HasTextFault text (BadByte at) = HasFirstFault text (BadByte at)
HasTextFault text Memory = Unit {0}
