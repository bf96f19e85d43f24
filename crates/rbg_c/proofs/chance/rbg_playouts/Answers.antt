-- The matches are told, or they aren't played, or they are too many or none.
use Rattle.std.proofs.Common.{refl, subst}
use Rattle.std.proofs.lemmas.Bool.{false≢true}
use Rattle.rbg_questions.specs.Chance.{IsUnplayed}
use Rattle.rbg_c.specs.States.{AbstractState}
use Rattle.rbg_c.specs.Playouts.{ArePlayed, no_count, played, failed}
use Rattle.rbg_c.proofs.Kept.{kept_there}
use Rattle.rbg_c.proofs.chance.rbg_playouts.Goals as goal

pub returns-then-not-is_count : goal.returns-then-not-is_count
returns-then-not-is_count c = no_count (λ has. false≢true (c.if-not-is_count.ensures.1 has)) refl refl refl

pub returns-in-Ok : goal.returns-in-Ok
returns-in-Ok c =
    played c.in-Some.ensures.taken (kept_there _ _ _ _ c.put.ensures c.play_rows.ensures.kept c.deref_mut.ensures.value)
    (subst (λ (s : AbstractState). ArePlayed s.game s.place c.args.count c.in-Ok.found.items) c.deref_mut.ensures.value c.in-Ok.ensures.played)
    (rw c.as_slice.ensures.value at c.fill.ensures)

pub returns-in-Err : goal.returns-in-Err
returns-in-Err c =
    failed c.in-Some.ensures.taken (kept_there _ _ _ _ c.put-in-Err.ensures c.play_rows.ensures.kept c.deref_mut.ensures.value) refl
    (record {
      refusal = c.in-Err.refusal;
      why = subst (λ (s : AbstractState). IsUnplayed s.game s.place c.in-Err.refusal) c.deref_mut.ensures.value c.in-Err.ensures.unplayed;
      is = c.number.ensures.number;
    })
