-- A legal move is made on a copy, or there was no memory, or the keeper's moves after it lead to no place where play rests.
use Rattle.rbg_questions.specs.declared.question_error.QuestionError.TheVariants.{Memory}
use Rattle.rbg_questions.specs.internal.Refusing.{refusal_of_unsettled}
use Rattle.rbg_questions.proofs.Faults.{stopped_after, stopped_at_once}
use Rattle.rbg_base.proofs.Errors.{passed_on}
use Rattle.rbg_questions.proofs.stepping.step.Goals as goal

pub make_move-requires-clause-place : goal.make_move-requires-clause-place
make_move-requires-clause-place c = rw (c.played-game.ensures, c.in_ok-to.ensures.copy, c.place.ensures.place) c.place.ensures.in_game

pub make_move-requires-clause-legal : goal.make_move-requires-clause-legal
make_move-requires-clause-legal c = rw (c.played-game.ensures, c.in_ok-to.ensures.copy, c.place.ensures.place) c.requires

pub returns-in_err-to-clause-stopped : goal.returns-in_err-to-clause-stopped
returns-in_err-to-clause-stopped c = passed_on c.from_residual.result Memory _ c.from_residual.ensures.1 (stopped_at_once _ _ _ c.requires)

pub returns-in_err-make_move-clause-stopped : goal.returns-in_err-make_move-clause-stopped
returns-in_err-make_move-clause-stopped c = passed_on c.from_residual-in_err-make_move.result Memory _ c.from_residual-in_err-make_move.ensures.1 (stopped_at_once _ _ _ c.requires)

pub returns-in_err-settle-clause-stopped : goal.returns-in_err-settle-clause-stopped
returns-in_err-settle-clause-stopped c =
    passed_on c.from_residual-in_err-settle.result (refusal_of_unsettled c.in_err-settle.field-0.0) _ c.from_residual-in_err-settle.ensures.1
    (stopped_after _ _ _ _ _ c.in_err-settle.field-0.0 (rw (c.played-game.ensures, c.in_ok-to.ensures.copy, c.place.ensures.place) at c.in_ok-make_move.ensures.to)
    (rw c.played-game.ensures at c.in_err-settle.ensures.heavy) (rw c.played-game.ensures at c.in_err-settle.ensures.endless))

pub returns-clause-leads : goal.returns-clause-leads
returns-clause-leads c = record {
  middle = c.make_move.new.place;
  legal = rw (c.played-game.ensures, c.in_ok-to.ensures.copy, c.place.ensures.place) at c.in_ok-make_move.ensures.to;
  settles = rw c.played-game.ensures at c.in_ok-settle.ensures.settles;
}
