-- How expansion fails.
use Rattle.std.proofs.Common.{ℕ, ◌≡◌, ◌+◌, ◌-◌, ◌<◌, ◌≤◌, List, ◌∷◌, length, ap, ◌∙◌, arith}
use Rattle.rbg_macro.proofs.Common.{MacroError, TooManyTokens, MAX_LEVEL, MAX_READ, Template, Calls, met, meets, IsMiscall, IsNamed, FailsReading, too_many_read, no_call, in_call, Macro}
use Rattle.rbg_macro.specs.Token.{Lexeme}

pub fails_without_call : (macros : List Macro) (d n k : ℕ) (t : Lexeme) (ts : List Lexeme) (template : Template) (e : MacroError) →
    IsNamed macros t template → IsMiscall template t.at ts e → FailsReading macros d n k (t ∷ ts) e
fails_without_call macros d n k t ts template e named is = rw is.at_name (no_call d n k t ts (ap (λ m. met m ts) named.named ∙ is.meets named.name))

pub fails_too_long : (macros : List Macro) (d n k : ℕ) (t : Lexeme) (ts body rest : List Lexeme) → meets macros t ts ≡ Calls body rest → d < MAX_LEVEL →
    n ≤ MAX_READ → MAX_READ - n < length body → FailsReading macros d n k (t ∷ ts) TooManyTokens
fails_too_long macros d n k t ts body rest meets not_deep within over =
    in_call d n k t ts body rest TooManyTokens meets not_deep (too_many_read (d + 1) n k body (omega arith))
