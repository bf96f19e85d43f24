use Rattle.rbg_base.proofs.Common.{arith, get_or_from_slice_get}
use Rattle.std.proofs.lemmas.Int.{to_z-of_z}
use Rattle.rbg_rules.proofs.Bridge.{arithmetic_of-Variable}
use Rattle.rbg_state.proofs.Fits.{fits-of_below}
use Rattle.rbg_state.proofs.state.SemiState.plain_value.Goals as goal

pub returns-in-Variable : goal.returns-in-Variable
returns-in-Variable c =
    let read = get_or_from_slice_get c.args.self.now.state.values c.in-Variable.variable c.value.result 0 c.value.ensures in
    let fits = fits-of_below c.value.result (omega arith) in
    rw (c.in-Variable.is, arithmetic_of-Variable) (grind (arith, to_z-of_z))
