-- A move by chance is made and told, or there is none, or it isn't made, or there was no memory.
use Rattle.rbg_questions.specs.declared.question_error.QuestionError.TheVariants.{Memory}
use Rattle.rbg_questions.specs.Chance.{stopped_at, unlisted}
use Rattle.rbg_questions.specs.Places.{no_memory}
use Rattle.rbg_questions.specs.internal.Refusing.{refusal_of_over, refusal_of_unsettled}
use Rattle.rbg_questions.proofs.Faults.{given_up, stopped_after}
use Rattle.rbg_base.proofs.Errors.{passed_on}
use Rattle.rbg_c.specs.internal.ByChance.{none_left}
use Rattle.rbg_c.proofs.ByChance.{played_so}
use Rattle.rbg_c.proofs.Places.{made_state}
use Rattle.rbg_c.proofs.state.State.play_one.Goals as goal

pub returns-in_err-to-clause-stuck : goal.returns-in_err-to-clause-stuck
returns-in_err-to-clause-stuck c = passed_on c.from_residual.result Memory _ c.from_residual.ensures.1 (unlisted no_memory)

pub returns-in_err-_choice-clause-stuck : goal.returns-in_err-_choice-clause-stuck
returns-in_err-_choice-clause-stuck c =
    rw (← c.self.view_is)
    (passed_on c.from_residual-in_err-_choice.result (refusal_of_over c.in_err-_choice.field-0.0) _ c.from_residual-in_err-_choice.ensures.1
    (unlisted (given_up _ _ _ _ c.in_err-_choice.field-0.0 (rw (c.deref-game.ensures, c.in_ok-to.ensures.copy) at c.in_err-_choice.ensures.given_up.heavy))))

pub returns-in_default-clause-plays : goal.returns-in_default-clause-plays
returns-in_default-clause-plays c =
    rw (← c.self.view_is) (none_left (rw (c.deref-game.ensures, c.in_ok-to.ensures.copy) at (rw c.in_default.is at c.in_ok-_choice.ensures.finished)))

pub returns-in_err-make_move-clause-stuck : goal.returns-in_err-make_move-clause-stuck
returns-in_err-make_move-clause-stuck c = passed_on c.from_residual-in_err-make_move.result Memory _ c.from_residual-in_err-make_move.ensures.1 (unlisted no_memory)

pub returns-in_err-push_move-clause-stuck : goal.returns-in_err-push_move-clause-stuck
returns-in_err-push_move-clause-stuck c = passed_on c.from_residual-in_err-push_move.result Memory _ c.from_residual-in_err-push_move.ensures.1 (unlisted no_memory)

pub returns-in_err-settle-clause-stuck : goal.returns-in_err-settle-clause-stuck
returns-in_err-settle-clause-stuck c =
    rw (← c.self.view_is)
    (passed_on c.from_residual-in_err-settle.result (refusal_of_unsettled c.in_err-settle.field-0.0) _ c.from_residual-in_err-settle.ensures.1
    (stopped_at (stopped_after _ _ _ _ _ c.in_err-settle.field-0.0
    (rw (c.deref-game.ensures, c.choose_move.ensures.kept, c.in_ok-to.ensures.copy) at c.in_ok-make_move.ensures.to)
    (rw c.deref-game.ensures at c.in_err-settle.ensures.heavy) (rw c.deref-game.ensures at c.in_err-settle.ensures.endless))))

pub returns-in_err-reserve-clause-stuck : goal.returns-in_err-reserve-clause-stuck
returns-in_err-reserve-clause-stuck c = passed_on c.from_residual-in_err-reserve.result Memory _ c.from_residual-in_err-reserve.ensures.1 (unlisted no_memory)

pub invariant_of-self-2 : goal.invariant_of-self-2
invariant_of-self-2 c =
    made_state _ _ _ _ _ _ _ _ c.self.invariant c.deref-game.ensures
    (record {
      middle = c.make_move.new.place;
      legal = rw (c.choose_move.ensures.kept, c.in_ok-to.ensures.copy) at c.in_ok-make_move.ensures.to;
      settles = c.in_ok-settle.ensures.settles;
    })
    c.settle.ensures.place c.reserve.ensures.items c.replace.ensures.value c.replace.ensures.after c.push_reserved.ensures.items

pub returns-clause-plays : goal.returns-clause-plays
returns-clause-plays c =
    rw (← c.self.view_is)
    (played_so _ _ _ _ _ _ _ _ _ _ c.deref-game.ensures
    (record {
      middle = c.make_move.new.place;
      legal = rw (c.choose_move.ensures.kept, c.in_ok-to.ensures.copy, c.chosen.ensures) at c.in_ok-make_move.ensures.to;
      settles = c.in_ok-settle.ensures.settles;
    })
    c.reserve.ensures.items c.replace.ensures.value c.replace.ensures.after c.push_reserved.ensures.items (rw c.chosen-2.ensures at c.in_ok-push_move.ensures))
