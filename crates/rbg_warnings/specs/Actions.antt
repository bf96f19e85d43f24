-- How the tokens of rules are cut into actions.
use Rattle.std.specs.Prelude.{◌≡◌, ◌≢◌, ℕ, ◌+◌, ◌<◌, ◌||◌, Bool, true, false, List, [], ◌∷◌, length, take, drop, slice_get, Some, All}
use Rattle.rbg_macro.specs.Kinds.{is_name_kind, is_symbol}
use Rattle.rbg_macro.specs.declared.token.Token.{Token}
use Rattle.rbg_macro.specs.declared.token.TokenKind.{TokenKind}
use Rattle.rbg_macro.specs.declared.token.TokenKind.TheVariants.{Symbol}
use Rattle.rbg_macro.specs.declared.token.Symbol.TheVariants.{DoubleArrow, Arrow, OpenBracket, CloseBracket, OpenBrace, CloseBrace, Comma, Question, Exclamation}

-- what begins an action that is a single token: a shift, or the switch to the keeper
abbrev pub is_single : TokenKind → Bool
is_single kind = is_name_kind kind || is_symbol DoubleArrow kind

-- what begins an off or an assignment: the bracket, or the comma after another assignment
abbrev pub is_change : TokenKind → Bool
is_change kind = is_symbol OpenBracket kind || is_symbol Comma kind

-- what ends one
abbrev pub ends_change : TokenKind → Bool
ends_change kind = is_symbol CloseBracket kind || is_symbol Comma kind

-- what follows the `{` of a pattern
abbrev pub is_mark : TokenKind → Bool
is_mark kind = is_symbol Question kind || is_symbol Exclamation kind

-- whether tokens begin with such a mark
abbrev pub marks_pattern : List Token → Bool
marks_pattern [] = false
marks_pattern (t ∷ ts) = is_mark t.kind

-- the first token of these of which P holds has this index
pub record IsFirst (P : Token → Type 0) (ts : List Token) (at : ℕ) : Type 0 where
  pub within : at < length ts
  pub token : Token
  pub stands : slice_get ts at ≡ Some token
  pub holds : P token
  pub first : All (λ t. ¬ P t) (take at ts)

abbrev pub EndsOn : Token → Type 0
EndsOn t = t.kind ≡ Symbol CloseBrace

abbrev pub EndsChange : Token → Type 0
EndsChange t = ends_change t.kind ≡ true

-- What a token begins, with some tokens after it: an action, to which `further` more tokens belong, or none.
pub data IsPart (t : Token) (ts : List Token) : (is_action : Bool) → (further : ℕ) → Type 0 where
  single : is_single t.kind ≡ true → IsPart t ts true 0
  -- `->` and the player
  to_player : t.kind ≡ Symbol Arrow → 0 < length ts → IsPart t ts true 1
  to_nobody : t.kind ≡ Symbol Arrow → length ts ≡ 0 → IsPart t ts false 0
  -- `{?` or `{!`
  pattern : t.kind ≡ Symbol OpenBrace → marks_pattern ts ≡ true → IsPart t ts true 1
  -- an on or a comparison, up to its `}`
  braces : {at : ℕ} → t.kind ≡ Symbol OpenBrace → marks_pattern ts ≡ false → IsFirst EndsOn ts at → IsPart t ts true (at + 1)
  open_braces : t.kind ≡ Symbol OpenBrace → marks_pattern ts ≡ false → All (λ u. ¬ EndsOn u) ts → IsPart t ts true 0
  -- an off or an assignment, up to what ends it
  change : {at : ℕ} → is_change t.kind ≡ true → IsFirst EndsChange ts at → IsPart t ts true at
  open_change : is_change t.kind ≡ true → All (λ u. ¬ EndsChange u) ts → IsPart t ts true 0
  -- anything else
  between :
      is_single t.kind ≡ false →
      is_change t.kind ≡ false →
      t.kind ≢ Symbol Arrow →
      t.kind ≢ Symbol OpenBrace →
      IsPart t ts false 0

-- The tokens, cut from the left: these are the actions, in order.
pub data AreCut : List Token → List (List Token) → Type 0 where
  nothing : AreCut [] []
  action : {t : Token} {ts : List Token} {further : ℕ} {found : List (List Token)} →
      IsPart t ts true further →
      AreCut (drop further ts) found →
      AreCut (t ∷ ts) ((t ∷ take further ts) ∷ found)
  none : {t : Token} {ts : List Token} {found : List (List Token)} →
      IsPart t ts false 0 →
      AreCut ts found →
      AreCut (t ∷ ts) found
