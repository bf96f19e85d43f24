use Rattle.rbg_flat.proofs.PlaceLemmas.{sets_forgotten, forgets}
use Rattle.rbg_flat.proofs.sets.Sets.forget.Goals as goal

pub invariant_of-self : goal.invariant_of-self
invariant_of-self c = rw c.clear_last.ensures.words (sets_forgotten c.self.view_is c.args.place c.requires.place c.requires.closed c.clear_last.new.self.listed c.self.invariant)

pub returns-clause-forgets : goal.returns-clause-forgets
returns-clause-forgets c = rw c.clear_last.ensures.words (forgets c.self.view_is c.args.place c.requires.place c.clear_last.new.self.listed)
