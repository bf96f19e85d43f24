-- The bytes are told.
use Rattle.std.proofs.Common.{subst}
use Rattle.rbg_questions.specs.Packing.{packed_of}
use Rattle.rbg_c.specs.States.{AbstractState}
use Rattle.rbg_c.specs.Filling.{FillsMade}
use Rattle.rbg_c.specs.Filling.FetchesMade.{made_there}
use Rattle.rbg_c.proofs.asking.rbg_pack.Goals as goal

pub returns : goal.returns
returns c =
    made_there c.in-Some.ensures.taken c.put.ensures
    (subst (λ (s : AbstractState). FillsMade (packed_of s.place) c.args.bytes.now c.fill_packed-result.new.buffer c.fill_packed-result.new.needed c.fill_packed-result.result) c.deref.ensures c.fill_packed-result.ensures)
