use Rattle.std.proofs.Common.{◌≡◌, ℕ, ◌<◌, ◌≤◌, take, get_or, Vec, Global}
use Rattle.rbg_match.proofs.outbox.cut.Given as goal

abbrev pub invariant-loop-index : goal.invariant-loop-index
invariant-loop-index l =
    ((i : ℕ) (d : Vec ℕ Global) → i < l.index → (get_or l.queues i d).items ≡ take (get_or l.marks i 0) (get_or l.initial.queues i d).items)
    × ((i : ℕ) (d : Vec ℕ Global) → l.index ≤ i → get_or l.queues i d ≡ get_or l.initial.queues i d)
