-- The proof of `examples::keeper_moves`.
use Rattle.std.proofs.Common.{[], refl, inl}
use Rattle.rbg_rules.specs.Meaning.{switch, outermost, done, again, start_of, stay, modify}
use Rattle.rbg_rules.specs.ExampleGames.{keeper_for_ever}
use Rattle.rbg_rules.proofs.ActionsAt.{no_switches}
use Rattle.rbg_rules.proofs.ExampleLemmas.{legal_by}
use Rattle.rbg_rules.proofs.examples.keeper_moves.Goals as goal

pub returns-clause-first : goal.returns-clause-first
returns-clause-first c =
    legal_by [] 1 (start_of keeper_for_ever)
    ([], record { expression = keeper_for_ever.rules; is_level = refl; is_word = again refl done })
    (modify (record { action = switch 0; stands = inl (refl, refl); acts = refl }) refl stay)
    (record { player = 0; stands = inl (refl, refl) }) (no_switches keeper_for_ever.rules [] refl)

pub returns-clause-again : goal.returns-clause-again
returns-clause-again c =
    legal_by [] 1 (start_of keeper_for_ever)
    (outermost, [], [], record { expression = keeper_for_ever.rules; is_level = refl; is_word = again refl (again refl done) })
    (modify (record { action = switch 0; stands = inl (refl, refl); acts = refl }) refl stay)
    (record { player = 0; stands = inl (refl, refl) }) (no_switches keeper_for_ever.rules [] refl)
