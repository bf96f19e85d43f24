-- The pairs that a search took are no more than its openings have.
use Rattle.rbg_base.proofs.Common.{◌≡◌, ℕ, ◌+◌, ◌*◌, ◌^◌, ◌<◌, ◌≤◌, length, ap, arith, mul-le}
use Rattle.rbg_rules.specs.Meaning.{AbstractGame, positions_of, IsWithinLimits}
use Rattle.rbg_search.proofs.Common.{Searching, most_candidates, IsSpent, IsSpentButOne}
use Rattle.rbg_search.proofs.Kept.{onward_rules}

-- The sum of all pairs is a number of 64 bits.
pub sum_fits : (game : AbstractGame) (opened taken more : ℕ) → IsWithinLimits game → IsSpentButOne game opened taken → opened < 2 ^ 32 → more ≤ most_candidates game → taken + more < 2 ^ 64
sum_fits game opened taken more limits spent small few =
    let product : ℕ = most_candidates game in
    let vertices : length game.board.first ≤ 4096 = limits.vertices in
    let positions : length (positions_of game.rules) ≤ 20000 = limits.positions in
    let least : product ≤ 20000 * 4096 = mul-le (length (positions_of game.rules)) (length game.board.first) 20000 4096 positions vertices in
    let all : opened * product ≤ opened * (20000 * 4096) = mul-le opened product opened (20000 * 4096) (omega arith) least in
    let sum = spent.few in
    omega (arith, sum, all, few, least, small)

-- One more was opened, and none was counted.
pub one_opened : (h k : Searching) → k ≡ record h { opened = k.opened; taken = k.taken } → k.taken ≡ h.taken → IsSpent h.game h.opened h.taken → k.opened ≡ h.opened + 1 → IsSpentButOne k.game k.opened k.taken
one_opened h k kept none spent one =
    let product : ℕ = most_candidates h.game in
    let times : (h.opened + 1) * product ≡ h.opened * product + product = grind arith in
    let same : k.opened * product ≡ (h.opened + 1) * product = ap (λ (n : ℕ). n * product) one in
    onward_rules (λ x. IsSpentButOne x k.opened k.taken) h k kept (record { few = omega (arith, spent.few, times, same, none) })
