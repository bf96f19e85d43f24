use Rattle.rbg_flat.proofs.SetLemmas.{meets_open, meets_closed, sets_open, sets_closed}
use Rattle.rbg_flat.proofs.sets.Sets.meet_word.Goals as goal

pub invariant_of-self : goal.invariant_of-self
invariant_of-self c =
    rw (c.add.ensures, c.add-then-open-ne0.ensures) (sets_open c.self.view_is c.self.invariant c.args.place c.args.word.position c.args.word.column c.requires.at c.requires.column c.requires.place c.args.word.bits c.word.result c.new_of-new.result c.shared-open.result c.args.opens c.word.ensures c.new_of-new.ensures.only c.new_of-new.ensures.all c.shared-open.ensures.only c.shared-open.ensures.both c.shared-open.ensures.all c.shared-open.ensures.few c.add-then-open-ne0.new.self.listed c.add.new.self.listed)

pub invariant_of-self-else-open-ne0 : goal.invariant_of-self-else-open-ne0
invariant_of-self-else-open-ne0 c =
    rw c.add.ensures (sets_closed c.self.view_is c.self.invariant c.args.place c.args.word.position c.args.word.column c.requires.at c.requires.column c.requires.place c.args.word.bits c.word.result c.new_of-new.result c.shared-open.result c.args.opens c.word.ensures c.new_of-new.ensures.only c.new_of-new.ensures.all c.shared-open.ensures.only c.shared-open.ensures.both c.shared-open.ensures.all c.shared-open.ensures.few c.add.new.self.listed)

pub returns-then-open-ne0 : goal.returns-then-open-ne0
returns-then-open-ne0 c =
    rw (c.add.ensures, c.add-then-open-ne0.ensures) (meets_open c.self.view_is c.self.invariant c.args.place c.args.word.position c.args.word.column c.requires.at c.requires.column c.requires.place c.args.word.bits c.word.result c.new_of-new.result c.shared-open.result c.args.opens c.word.ensures c.new_of-new.ensures.only c.new_of-new.ensures.all c.shared-open.ensures.only c.shared-open.ensures.both c.shared-open.ensures.all c.shared-open.ensures.few c.add-then-open-ne0.new.self.listed c.add.new.self.listed c.new_of-new.ensures.fresh c.new_of-new.ensures.sum c.new_of-new.ensures.fits)

pub returns-else-open-ne0 : goal.returns-else-open-ne0
returns-else-open-ne0 c =
    rw c.add.ensures (meets_closed c.self.view_is c.self.invariant c.args.place c.args.word.position c.args.word.column c.requires.at c.requires.column c.requires.place c.args.word.bits c.word.result c.new_of-new.result c.shared-open.result c.args.opens c.word.ensures c.new_of-new.ensures.only c.new_of-new.ensures.all c.shared-open.ensures.only c.shared-open.ensures.both c.shared-open.ensures.all c.shared-open.ensures.few c.add.new.self.listed c.if-open-ne0.false c.new_of-new.ensures.sum c.new_of-new.ensures.fits)
