use Rattle.std.proofs.Common.{sym, ◌∙◌, arith}
use Rattle.rbg_match.proofs.Common.{Settled, KeeperMoved, play_of}
use Rattle.rbg_match.specs.PlayingOn.{endless, heavy, finished, turn, MayBeAsked}
use Rattle.rbg_match.proofs.Replying.{replies_with, replies_quietly}
use Rattle.rbg_match.proofs.state.Referee.play_on_once.Goals as goal
use Rattle.rbg_match.proofs.state.Referee.play_on_once.Goals.{else-mover-eq0-via-then-mover-eq0+else-in_a_row-ge-MAX_KEEPER_MOVES, else-mover-eq0-via-else-mover-eq0, After-find_pairs}

may_be_asked : (c : After-find_pairs) → MayBeAsked c.args.in_a_row (play_of c.self.inside.play)
may_be_asked c = λ is_keeper.
    elim c.else-mover-eq0.branch [
      | else-mover-eq0-via-then-mover-eq0+else-in_a_row-ge-MAX_KEEPER_MOVES w ↦ omega arith
      | else-mover-eq0-via-else-mover-eq0 w ↦ absurd (w.if-mover-eq0.false (c.mover-mover.ensures ∙ is_keeper))
    ]

pub returns-then-in_a_row-ge-MAX_KEEPER_MOVES : goal.returns-then-in_a_row-ge-MAX_KEEPER_MOVES
returns-then-in_a_row-ge-MAX_KEEPER_MOVES c =
    rw (← c.self.view_is) (replies_with (rw (← c.self.view_is) at c.in_ok-end.ensures) Settled _ (λ after outgoing ends. rw (ends.0, ends.1) (endless (sym c.mover-mover.ensures ∙ c.if-mover-eq0.true) c.if-in_a_row-ge-MAX_KEEPER_MOVES.true)))

pub returns-in_ok-end_finished-in-Ok-None : goal.returns-in_ok-end_finished-in-Ok-None
returns-in_ok-end_finished-in-Ok-None c =
    let nothing = rw c.in-Ok-None.field-0-is at c.in-Ok-None.ensures.finished in
    rw (← c.self.view_is) (replies_with (rw c.find_pairs.ensures.kept at c.in_ok-end_finished-in-Ok-None.ensures) Settled _ (λ after outgoing ends. rw (ends.0, ends.1) (finished (may_be_asked (goal.at.returns-in_ok-end_finished-in-Ok-None c).After-find_pairs) nothing)))

pub returns-then-mover-ne0 : goal.returns-then-mover-ne0
returns-then-mover-ne0 c =
    let found = rw c.in-Ok-Some.field-0-is at c.in-Ok-Some.ensures.found in
    rw (← c.self.view_is) (replies_quietly Settled _ _ (rw c.find_pairs.ensures.kept at c.begin_turn.ensures) _ (turn (λ is_keeper. c.if-mover-ne0.true (c.mover-mover.ensures ∙ is_keeper)) found.1))

pub returns-in_ok-make_for_keeper-in-Ok-Some : goal.returns-in_ok-make_for_keeper-in-Ok-Some
returns-in_ok-make_for_keeper-in-Ok-Some c =
    let many = rw c.in-Ok-Some.field-0-is at c.in-Ok-Some.ensures.length in
    let is_keeper = sym c.mover-mover.ensures ∙ c.if-mover-ne0.false in
    rw (← c.self.view_is) (replies_with (rw c.find_pairs.ensures.kept at c.in_ok-make_for_keeper-in-Ok-Some.ensures) KeeperMoved _ (λ after outgoing makes. record {
      keeper = is_keeper;
      may = may_be_asked (goal.at.returns-in_ok-make_for_keeper-in-Ok-Some c).After-find_pairs is_keeper;
      pairs = c.in-Ok-Some.pairs.items;
      short = many.1;
      makes = makes;
    }))

pub returns-in_ok-end_heavy-in-Err : goal.returns-in_ok-end_heavy-in-Err
returns-in_ok-end_heavy-in-Err c =
    rw (← c.self.view_is) (replies_with (rw c.find_pairs.ensures.kept at c.in_ok-end_heavy-in-Err.ensures) Settled _ (λ after outgoing ends. rw (ends.1.0, ends.1.1) (heavy (may_be_asked (goal.at.returns-in_ok-end_heavy-in-Err c).After-find_pairs) (c.in-Err.ensures.heavy ends.0))))
