-- There are nodes for the positions so far.
use Rattle.rbg_shifts.specs.internal.Interned.{AreListsUpTo}
use Rattle.rbg_shifts.proofs.lists.lists_of.Given as goal

abbrev pub invariant-loop-index : goal.invariant-loop-index
invariant-loop-index g l = AreListsUpTo l.game.rules l.index l.interner l.rules l.afters.items l.insides.items
