-- The name is told, or there is none.
use Rattle.std.proofs.Common.{◌≡◌, ℕ, List, subst, slice_get, Some}
use Rattle.std.specs.Prelude.{Option}
use Rattle.rbg_c.specs.States.{AbstractState}
use Rattle.rbg_c.specs.Names.{names_of}
use Rattle.rbg_c.specs.Results.{range}
use Rattle.rbg_c.specs.Filling.{FillsSome, fetched}
use Rattle.rbg_c.proofs.naming.rbg_name.Goals as goal

pub returns : goal.returns
returns c =
    fetched c.in-Some.ensures.taken c.put.ensures
    (subst (λ (s : AbstractState). FillsSome (λ found. ◌≡◌ {A = Option (List ℕ)} (slice_get (names_of c.args.kind s.game) c.args.index) (Some found)) range c.args.name.now c.fill_name-result.new.name c.fill_name-result.new.needed c.fill_name-result.result) c.deref.ensures c.fill_name-result.ensures)
