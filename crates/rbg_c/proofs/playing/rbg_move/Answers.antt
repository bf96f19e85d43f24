-- The move is told, or there is none.
use Rattle.std.proofs.Common.{subst}
use Rattle.rbg_c.specs.States.{AbstractState, IsFoundAt}
use Rattle.rbg_c.specs.Results.{illegal}
use Rattle.rbg_c.specs.Filling.{FillsSome, fetched}
use Rattle.rbg_c.proofs.playing.rbg_move.Goals as goal

pub returns : goal.returns
returns c =
    fetched c.in-Some.ensures.taken c.put.ensures
    (subst (λ (s : AbstractState). FillsSome (IsFoundAt s c.args.index) illegal c.args.pairs.now c.fill_found-result.new.pairs c.fill_found-result.new.needed c.fill_found-result.result) c.deref.ensures c.fill_found-result.ensures)
