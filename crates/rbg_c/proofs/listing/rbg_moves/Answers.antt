-- The moves are found and told, or the question was given up.
use Rattle.std.proofs.Common.{refl, subst}
use Rattle.rbg_questions.specs.Places.{IsUnlisted}
use Rattle.rbg_c.specs.States.{AbstractState}
use Rattle.rbg_c.specs.Listing.{unlisted}
use Rattle.rbg_c.proofs.Kept.{kept_there}
use Rattle.rbg_c.proofs.Listed.{lists_found}
use Rattle.rbg_c.proofs.listing.rbg_moves.Goals as goal

pub returns-in-Ok : goal.returns-in-Ok
returns-in-Ok c =
    lists_found _ _ _ _ _ _ _ _ _ _ _ c.in-Some.ensures.taken c.put.ensures c.deref_mut.ensures.value c.deref.ensures c.in-Ok.ensures.found c.fill_moves-result.ensures

pub returns-in-Err : goal.returns-in-Err
returns-in-Err c =
    unlisted c.in-Some.ensures.taken (kept_there _ _ _ _ c.put-in-Err.ensures c.in-Err.ensures.kept c.deref_mut.ensures.value) refl
    (record {
      refusal = c.in-Err.refusal;
      why = subst (λ (s : AbstractState). IsUnlisted s.game s.place c.in-Err.refusal) c.deref_mut.ensures.value c.in-Err.ensures.unlisted;
      is = c.number.ensures.number;
    })
