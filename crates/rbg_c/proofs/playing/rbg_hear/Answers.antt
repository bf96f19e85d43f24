-- The move is made, or it isn't.
use Rattle.std.proofs.Common.{refl, subst}
use Rattle.rbg_questions.specs.Places.{IsUnfollowed}
use Rattle.rbg_c.specs.States.{AbstractState, Hears}
use Rattle.rbg_c.specs.Stepping.{IsNoMove}
use Rattle.rbg_c.specs.Calls.{done, failed}
use Rattle.rbg_c.proofs.Kept.{kept_there}
use Rattle.rbg_c.proofs.playing.rbg_hear.Goals as goal

pub returns-in-Ok : goal.returns-in-Ok
returns-in-Ok c =
    done c.in-Some.ensures.taken c.put.ensures refl
    (subst (λ (s : AbstractState). Hears s c.args.pairs.now c.hear.new.state) c.deref_mut.ensures.value c.in-Ok.ensures.heard)

pub returns-in-Err : goal.returns-in-Err
returns-in-Err c =
    failed c.in-Some.ensures.taken (kept_there _ _ _ _ c.put-in-Err.ensures c.in-Err.ensures.kept c.deref_mut.ensures.value)
    (record {
      refusal = c.in-Err.refusal;
      why = subst (λ (s : AbstractState). IsNoMove (IsUnfollowed s.game s.place c.args.pairs.now) c.args.pairs.now c.in-Err.refusal) c.deref_mut.ensures.value c.in-Err.ensures.refused;
      is = c.number.ensures.number;
    })
