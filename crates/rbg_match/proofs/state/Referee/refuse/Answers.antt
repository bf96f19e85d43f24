use Rattle.std.proofs.Common.{arith}
use Rattle.rbg_match.specs.Handling.{counted}
use Rattle.rbg_match.proofs.Sayings.{both_said, length-says, said_refused}
use Rattle.rbg_match.proofs.HandlingLemmas.{handles_spent}
use Rattle.rbg_match.proofs.Replying.{replies_saying, refuses_saying, still_referee, counted_in_game, spent_in_game}
use Rattle.rbg_match.proofs.state.Referee.refuse.Goals as goal

pub invariant_of-self : goal.invariant_of-self
invariant_of-self c = still_referee c.self.invariant c.queue_message.ensures c.self.invariant.in_game

pub returns-in_err-queue_message : goal.returns-in_err-queue_message
returns-in_err-queue_message c = rw (← c.self.view_is) (refuses_saying _ c.queue_message.ensures _ c.from_residual.result c.from_residual.ensures.0 _)

pub invariant_of-self-in-Continue-branch-2 : goal.invariant_of-self-in-Continue-branch-2
invariant_of-self-in-Continue-branch-2 c =
    still_referee (still_referee c.self.invariant c.in_ok-queue_message.ensures c.self.invariant.in_game) c.queue_for_each.ensures (rw (c.refuse.ensures.spent c.if-refuse.true).1 (spent_in_game _ _ c.self.invariant.in_game))

pub invariant_of-self-in_err-queue_for_each : goal.invariant_of-self-in_err-queue_for_each
invariant_of-self-in_err-queue_for_each c =
    still_referee (still_referee c.self.invariant c.in_ok-queue_message.ensures c.self.invariant.in_game) c.queue_for_each.ensures (rw (c.refuse.ensures.spent c.if-refuse.true).1 (spent_in_game _ _ c.self.invariant.in_game))

pub returns-in_err-queue_for_each : goal.returns-in_err-queue_for_each
returns-in_err-queue_for_each c =
    let told = c.in_ok-queue_message.ensures in
    let refusal = c.from_residual-in_err-queue_for_each in
    rw (← c.self.view_is) (refuses_saying _ (said_refused told.outgoing told.beyond c.queue_for_each.ensures refusal.result refusal.ensures.0 (λ _ _. Unit {0})) _ refusal.result refusal.ensures.0 _)

pub invariant_of-self-else-refuse : goal.invariant_of-self-else-refuse
invariant_of-self-else-refuse c =
    let (allowed, counts) = c.refuse.ensures.counted c.if-refuse.false in
    let most = c.self.invariant.lawful.refusals_most in
    still_referee c.self.invariant c.in_ok-queue_message.ensures (rw counts (counted_in_game _ c.self.invariant.in_game (rw (← c.self.view_is) at c.requires.going) (omega (arith, allowed, most))))

pub returns-in_ok-queue_for_each : goal.returns-in_ok-queue_for_each
returns-in_ok-queue_for_each c =
    let told = c.in_ok-queue_message.ensures in
    let more = c.in_ok-queue_for_each.ensures in
    let (many, spends) = c.refuse.ensures.spent c.if-refuse.true in
    rw (← c.self.view_is) (replies_saying _ (both_said told more) _ _ _ (handles_spent many spends told.whole (rw (length-says told, c.self.invariant.seats) at more.whole)))

pub returns-else-refuse : goal.returns-else-refuse
returns-else-refuse c =
    let told = c.in_ok-queue_message.ensures in
    let (allowed, counts) = c.refuse.ensures.counted c.if-refuse.false in
    rw (← c.self.view_is) (replies_saying _ told _ _ _ (rw (counts, told.whole) (counted allowed)))
