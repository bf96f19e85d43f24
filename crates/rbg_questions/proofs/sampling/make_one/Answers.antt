-- A move is made, or there is none, or the question or the keeper's moves after it were given up.
use Rattle.std.proofs.Common.{false, sym, subst}
use Rattle.rbg_rules.specs.Meaning.{AbstractPlace, Legal}
use Rattle.rbg_questions.specs.declared.question_error.QuestionError.TheVariants.{Memory}
use Rattle.rbg_questions.specs.Chance.{stopped_at, unlisted}
use Rattle.rbg_questions.specs.Places.{no_memory}
use Rattle.rbg_questions.specs.internal.Searching.{TellsMove, rests}
use Rattle.rbg_questions.specs.internal.Refusing.{refusal_of_over, refusal_of_unsettled}
use Rattle.rbg_base.proofs.Errors.{passed_on}
use Rattle.rbg_questions.proofs.Faults.{given_up, stopped_after}
use Rattle.rbg_questions.proofs.Sampled.{tells_moved}
use Rattle.rbg_questions.proofs.sampling.make_one.Goals as goal

pub returns-in_err-_choice-clause-unmoved : goal.returns-in_err-_choice-clause-unmoved
returns-in_err-_choice-clause-unmoved c =
    passed_on c.from_residual.result (refusal_of_over c.in_err-_choice.field-0.0) _ c.from_residual.ensures.1 (unlisted (given_up _ _ _ _ c.in_err-_choice.field-0.0 c.in_err-_choice.ensures.given_up.heavy))

pub returns-in_default-clause-moves : goal.returns-in_default-clause-moves
returns-in_default-clause-moves c =
    subst (λ (p : AbstractPlace). TellsMove c.args.game.now c.args.place.now c.args.lines.now.items false p c.args.lines.now.items) (sym c.choose_move.ensures.kept)
    (rests (rw c.in_default.is at c.in_ok-_choice.ensures.finished))

pub returns-in_err-make_move-clause-unmoved : goal.returns-in_err-make_move-clause-unmoved
returns-in_err-make_move-clause-unmoved c =
    passed_on c.from_residual-in_err-make_move.result Memory _ c.from_residual-in_err-make_move.ensures.1 (unlisted no_memory)

pub returns-in_err-put_move_line-clause-unmoved : goal.returns-in_err-put_move_line-clause-unmoved
returns-in_err-put_move_line-clause-unmoved c =
    passed_on c.from_residual-in_err-put_move_line.result Memory _ c.from_residual-in_err-put_move_line.ensures.1 (unlisted no_memory)

pub returns-in_err-settle-clause-unmoved : goal.returns-in_err-settle-clause-unmoved
returns-in_err-settle-clause-unmoved c =
    passed_on c.from_residual-in_err-settle.result (refusal_of_unsettled c.in_err-settle.field-0.0) _ c.from_residual-in_err-settle.ensures.1
    (stopped_at (stopped_after _ _ _ _ _ c.in_err-settle.field-0.0 (subst (λ (p : AbstractPlace). Legal c.args.game.now p c.choose_move.new.workspace.front.items c.make_move.new.place) c.choose_move.ensures.kept (rw c.chosen.ensures at c.in_ok-make_move.ensures.to)) c.in_err-settle.ensures.heavy c.in_err-settle.ensures.endless))

pub returns-clause-moves : goal.returns-clause-moves
returns-clause-moves c =
    tells_moved _ _ _ _ _ _ _ (subst (λ (p : AbstractPlace). Legal c.args.game.now p c.choose_move.new.workspace.front.items c.make_move.new.place) c.choose_move.ensures.kept (rw c.chosen.ensures at c.in_ok-make_move.ensures.to)) c.in_ok-settle.ensures.settles (rw c.chosen-2.ensures at c.in_ok-put_move_line.ensures.written)
