-- The moves are found, or the question was given up.
use Rattle.std.proofs.Common.{refl, subst}
use Rattle.rbg_questions.specs.Places.{IsUnlisted}
use Rattle.rbg_c.specs.States.{AbstractState, FindsMoves}
use Rattle.rbg_c.specs.Calls.{done, failed}
use Rattle.rbg_c.proofs.Kept.{kept_there}
use Rattle.rbg_c.proofs.playing.rbg_find_moves.Goals as goal

pub returns-in-Ok : goal.returns-in-Ok
returns-in-Ok c =
    done c.in-Some.ensures.taken c.put.ensures refl
    (subst (λ (s : AbstractState). FindsMoves s c.in-Ok.many c.find_moves.new.self) c.deref_mut.ensures.value c.in-Ok.ensures.found)

pub returns-in-Err : goal.returns-in-Err
returns-in-Err c =
    failed c.in-Some.ensures.taken (kept_there _ _ _ _ c.put-in-Err.ensures c.in-Err.ensures.kept c.deref_mut.ensures.value)
    (record {
      refusal = c.in-Err.refusal;
      why = subst (λ (s : AbstractState). IsUnlisted s.game s.place c.in-Err.refusal) c.deref_mut.ensures.value c.in-Err.ensures.unlisted;
      is = c.number.ensures.number;
    })
