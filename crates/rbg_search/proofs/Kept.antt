-- What stays of a search and of a semi-state over several steps.
use Rattle.std.proofs.Common.{◌≡◌, ℕ, ◌+◌, ◌-◌, ◌<◌, ◌≤◌, arith, sym, ap, ◌∙◌, subst}
use Rattle.rbg_rules.specs.Meaning.{AbstractGame, AbstractState}
use Rattle.rbg_state.specs.History.{History}
use Rattle.rbg_search.specs.Searching.{Searching}

pub kept_same : (h k : Searching) → k ≡ h → k ≡ record h { opened = k.opened; taken = k.taken }
kept_same h k same = same ∙ ap (λ (x : Searching). let y : Searching = record h { opened = x.opened; taken = x.taken } in y) (sym same)

pub kept_twice : (h k l : Searching) → k ≡ record h { opened = k.opened; taken = k.taken } → l ≡ record k { opened = l.opened; taken = l.taken } → l ≡ record h { opened = l.opened; taken = l.taken }
kept_twice h k l first second = second ∙ ap (λ (x : Searching). let y : Searching = record x { opened = l.opened; taken = l.taken } in y) first

pub kept_since : (h k l : Searching) → k ≡ h → l ≡ record k { opened = l.opened; taken = l.taken } → l ≡ record h { opened = l.opened; taken = l.taken }
kept_since h k l same kept = kept_twice h k l (kept_same h k same) kept

-- What holds of the game and of the semi-state goes on, and was so before.
pub onward : (P : AbstractGame → AbstractState → Type 0) (h k : Searching) (s t : History) → k ≡ record h { opened = k.opened; taken = k.taken } → t ≡ record s { room = t.room } → P h.game s.state → P k.game t.state
onward P h k s t kept given x = subst (λ (y : Searching). P y.game t.state) (sym kept) (subst (λ (y : History). P h.game y.state) (sym given) x)

pub before : (P : AbstractGame → AbstractState → Type 0) (h k : Searching) (s t : History) → k ≡ record h { opened = k.opened; taken = k.taken } → t ≡ record s { room = t.room } → P k.game t.state → P h.game s.state
before P h k s t kept given x = subst (λ (y : History). P h.game y.state) given (subst (λ (y : Searching). P y.game t.state) kept x)

pub onward_rules : (P : AbstractGame → Type 0) (h k : Searching) → k ≡ record h { opened = k.opened; taken = k.taken } → P h.game → P k.game
onward_rules P h k kept x = subst (λ (y : Searching). P y.game) (sym kept) x

pub rules_before : (P : AbstractGame → Type 0) (h k : Searching) → k ≡ record h { opened = k.opened; taken = k.taken } → P k.game → P h.game
rules_before P h k kept x = subst (λ (y : Searching). P y.game) kept x

-- Of what is left of a whole some was taken.
pub further_on : (top a b c : ℕ) → a ≤ b → c ≡ b + 1 → c < top → top - c < top - a
further_on top a b c first second under = omega (arith, first, second, under)
