use Rattle.rbg_flat.proofs.SetLemmas.{closes_word, sets_less}
use Rattle.rbg_flat.proofs.sets.Sets.close_word.Goals as goal

pub invariant_of-self : goal.invariant_of-self
invariant_of-self c = rw c.take_bits.ensures (sets_less c.self.view_is c.self.invariant c.args.place c.args.position c.args.column c.requires.at c.requires.column c.requires.place c.args.word c.ranges.word.fits c.take_bits.new.self.listed)

pub returns : goal.returns
returns c = rw c.take_bits.ensures (closes_word c.self.view_is c.self.invariant c.args.place c.args.position c.args.column c.requires.at c.requires.column c.requires.place c.args.word c.ranges.word.fits c.take_bits.new.self.listed)
