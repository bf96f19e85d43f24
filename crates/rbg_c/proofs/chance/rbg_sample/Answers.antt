-- The copy is played on, or a move isn't made.
use Rattle.std.proofs.Common.{refl, subst}
use Rattle.rbg_c.specs.States.{AbstractState}
use Rattle.rbg_c.specs.Playouts.{IsNotPlayedOn, stopped}
use Rattle.rbg_c.proofs.ByChance.{samples_from}
use Rattle.rbg_c.proofs.chance.rbg_sample.Goals as goal

pub returns-in-Ok-clause-to : goal.returns-in-Ok-clause-to
returns-in-Ok-clause-to c = samples_from _ _ _ _ _ _ _ _ _ _ _ _ _ c.in-Some.ensures.taken c.deref.ensures c.new-moves.ensures.items c.in-Ok.ensures.played c.hand_out.ensures

pub returns-in-Err-clause-to : goal.returns-in-Err-clause-to
returns-in-Err-clause-to c =
    stopped c.in-Some.ensures.taken refl refl
    (record {
      refusal = c.in-Err.refusal;
      why = subst (λ (s : AbstractState). IsNotPlayedOn s.game s.place c.args.most c.in-Err.refusal) c.deref.ensures c.in-Err.ensures.stuck;
      is = c.number.ensures.number;
    })
