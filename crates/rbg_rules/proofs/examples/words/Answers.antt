-- The proof of `examples::words`.
use Rattle.std.proofs.Common.{[], ◌∷◌, refl}
use Rattle.rbg_rules.specs.Meaning.{done, again}
use Rattle.rbg_rules.proofs.examples.words.Goals as goal

pub returns-clause-none : goal.returns-clause-none
returns-clause-none c = done

pub returns-clause-twice : goal.returns-clause-twice
returns-clause-twice c = again refl (again refl done)

pub returns-clause-of_sequence : goal.returns-clause-of_sequence
returns-clause-of_sequence c = (1 ∷ [], 2 ∷ [], ([], 1 ∷ [], refl, refl, refl), refl, refl)
