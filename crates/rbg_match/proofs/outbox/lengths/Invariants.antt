use Rattle.std.proofs.Common.{◌≡◌, ℕ, ◌<◌, length, get_or, Vec, Global}
use Rattle.rbg_match.proofs.outbox.lengths.Given as goal

abbrev pub invariant-loop-index : goal.invariant-loop-index
invariant-loop-index l = (length l.marks ≡ 8) × ((i : ℕ) (d : Vec ℕ Global) → i < l.index → get_or l.marks i 0 ≡ length (get_or l.queues i d).items)
