-- The pairs of a legal move have a spelling.
use Rattle.std.proofs.Common.{ℕ, List, length, Result, Ok, Err, Option, Some, None, IfOk, IfSome}
use Rattle.rbg_rules.specs.Meaning.{AbstractGame, IsGame, AbstractPlace, IsLegal, IsPlaceOf}
use Rattle.rbg_base.specs.Move.{IsMoveLength}
use Rattle.rbg_wire.specs.Messages.{ArePairs}
use Rattle.rbg_rules.proofs.LegalPairs.{legal_spelled}

-- a move that was found has a spelling
pub found_are_pairs : {E T : Type 0} (items : T → List (ℕ × ℕ)) (game : AbstractGame) → IsGame game → (place : AbstractPlace) → IsPlaceOf game place → (result : Result (Option T) E) → IfOk result (λ found. IfSome found (λ pairs. IsLegal game place (items pairs))) → IfOk result (λ found. IfSome found (λ pairs. IsMoveLength (length (items pairs)))) → IfOk result (λ found. IfSome found (λ pairs. ArePairs (items pairs)))
found_are_pairs items game lawful place fits (Ok (Some pairs)) legal many = legal_spelled game lawful place fits (items pairs) legal many
found_are_pairs items game lawful place fits (Ok None) legal many = tt
found_are_pairs items game lawful place fits (Err error) legal many = tt
