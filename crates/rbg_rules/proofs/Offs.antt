-- A star of offs, whose position is 2: a number of them, and their pairs at the vertex 0.
use Rattle.rbg_base.proofs.Common.{◌≡◌, ℕ, zero, suc, List, [], ◌∷◌, length, refl, ap, All-cons, All-nil}
use Rattle.rbg_rules.specs.Meaning.{off, act, Expression, IsSwitchAt, HasNoSwitch, Repeats, done, again, Word}

unfoldable pub offs : ℕ → List ℕ
offs zero = []
offs (suc n) = 2 ∷ offs n

unfoldable pub pairs : ℕ → List (ℕ × ℕ)
pairs zero = []
pairs (suc n) = (0, 2) ∷ pairs n

pub length-pairs : (n : ℕ) → length (pairs n) ≡ n
unfolding pairs
length-pairs zero = refl
length-pairs (suc n) = ap suc (length-pairs n)

pub word : (piece n : ℕ) → Repeats (Word (act 2 (off piece))) (offs n)
unfolding offs
word piece zero = done
word piece (suc n) = again refl (word piece n)

pub no_switch : (rules : Expression) → ¬ IsSwitchAt rules 2 → (n : ℕ) → HasNoSwitch rules (offs n)
unfolding offs
no_switch rules none zero = All-nil (λ p. ¬ IsSwitchAt rules p)
no_switch rules none (suc n) = All-cons (λ p. ¬ IsSwitchAt rules p) 2 (offs n) none (no_switch rules none n)
