-- Laws of texts and their tokens. The module `laws` proves each.
use Rattle.std.specs.Prelude.{ℕ, ◌≡◌, ◌≢◌, List, All}
use Rattle.rbg_macro.specs.declared.text_error.TextError.{TextError}
use Rattle.rbg_macro.specs.declared.text_error.TextError.TheVariants as text_errors
use Rattle.rbg_macro.specs.declared.text_limits.TheConstants.{MAX_TEXT}
use Rattle.rbg_macro.specs.TextLimits.{longest_text}
use Rattle.rbg_macro.specs.Text.{HasTokens, HasTextFault}
use Rattle.rbg_macro.specs.Token.{Lexeme}

-- a text with tokens has no zero byte
abbrev pub NoZeroByteLaw : Type 0
NoZeroByteLaw = (text : List ℕ) (ts : List Lexeme) → HasTokens text ts → All (λ byte. byte ≢ 0) text

-- a text has at most one list of tokens
abbrev pub OneReadingLaw : Type 0
OneReadingLaw = (text : List ℕ) (a b : List Lexeme) → HasTokens text a → HasTokens text b → a ≡ b

-- a text with tokens has no error other than out of memory
abbrev pub TokensOrFaultLaw : Type 0
TokensOrFaultLaw = (text : List ℕ) (ts : List Lexeme) → HasTokens text ts → (e : TextError) →
    HasTextFault text e → e ≡ text_errors.Memory

-- a text has at most one error other than out of memory
abbrev pub OneTextErrorLaw : Type 0
OneTextErrorLaw = (text : List ℕ) (e f : TextError) → HasTextFault text e → HasTextFault text f →
    e ≢ text_errors.Memory → f ≢ text_errors.Memory → e ≡ f

-- the limit of the code is that of the definitions
abbrev pub LimitLaw : Type 0
LimitLaw = MAX_TEXT ≡ longest_text
