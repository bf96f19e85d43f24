use Rattle.std.proofs.Common.{◌-◌, bit_and}
use Rattle.rbg_flat.proofs.Listings.{taken_last}
use Rattle.rbg_flat.proofs.table.BitTable.take_bits.Goals as goal

pub invariant_of-self : goal.invariant_of-self
invariant_of-self c =
    let last = rw (← c.self.view_is) at c.requires.last in
    taken_last c.self.inside.words.items c.self.inside.room.items c.self.inside.listed c.self.invariant c.args.place last (bit_and c.index.result.now (18446744073709551615 - c.args.bits)) c.if-left-eq0.true
