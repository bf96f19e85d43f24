use Rattle.std.proofs.Common.{◌≡◌, ◌<◌, ℕ, length, get_or}
use Rattle.rbg_serving.specs.internal.Lines.{absent, at_first}
use Rattle.rbg_serving.proofs.serving.states_at_first.Given as goal

abbrev pub invariant-loop : goal.invariant-loop
invariant-loop l =
    (length l.states.items ≡ l.counter)
    × ((k : ℕ) → k < length l.states.items → get_or l.states.items k absent ≡ at_first)
