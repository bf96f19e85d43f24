-- The moves that texts may mean, from what the readers of numbers and of pairs find.
use Rattle.std.proofs.Common.{◌≡◌, ℕ, List, [], ◌∷◌, ◌++◌, Option, Some, None, IfSome, IfNone, codes, subst, sym, ap, ◌∙◌}
use Rattle.rbg_wire.proofs.FieldLemmas.{same_fields}
use Rattle.rbg_view.specs.declared.move_readings.Lead.{Lead}
use Rattle.rbg_view.specs.declared.move_readings.Lead.TheVariants.{Nothing, Player, MomentAndPlayer}
use Rattle.rbg_view.specs.declared.move_readings.Reading.{Reading}
use Rattle.rbg_wire.specs.Words.{BeginsWithNumber}
use Rattle.rbg_view.specs.Readings.{AreReadings, IsMoveText, IsPlayersMove, IsSaid, MayMean, Means, SpellsMovePairs, of_player, with_letter}
use Rattle.rbg_view.specs.Readings.AreReadings.{told, untold}
use Rattle.rbg_view.specs.Readings.IsSaid.{one, none}
use Rattle.rbg_view.specs.internal.Holding.{AddsMeaning}

-- pairs after the letter
pub lettered : (text beyond : List ℕ) (answer : Option (List (ℕ × ℕ))) → text ≡ codes "M" ++ beyond → IfSome answer (SpellsMovePairs beyond) → IfSome answer (IsMoveText text)
lettered text beyond (Some pairs) cut found = with_letter beyond cut found
lettered text beyond None cut found = tt

-- what stands after the number with which a text begins
same_rest : (text : List ℕ) (m n : ℕ) (x y : List ℕ) → BeginsWithNumber text m x → BeginsWithNumber text n y → x ≡ y
same_rest text m n x y h k = (same_fields text x y m n h.small k.small h.parts k.parts).1

-- a player and a move
pub players_found : (text rest : List ℕ) (n : ℕ) (answer : Option Reading) → BeginsWithNumber text n rest → IfSome answer (λ reading. (reading.player ≡ Some n) × IsMoveText rest reading.pairs) → IfSome answer (λ reading. IsPlayersMove text reading.player reading.pairs)
players_found text rest n (Some reading) begins (who, move) = subst (λ (player : Option ℕ). IsPlayersMove text player reading.pairs) (sym who) (of_player n rest reading.pairs begins move)
players_found text rest n None begins found = tt

no_players_move : (text rest : List ℕ) (n : ℕ) → BeginsWithNumber text n rest → ((pairs : List (ℕ × ℕ)) → IsMoveText rest pairs → ⊥) → (player : Option ℕ) (pairs : List (ℕ × ℕ)) → IsPlayersMove text player pairs → ⊥
no_players_move text rest n begins nothing _ _ (of_player m more pairs others move) = nothing pairs (subst (λ (t : List ℕ). IsMoveText t pairs) (same_rest text m n more rest others begins) move)

pub players_none : (text rest : List ℕ) (n : ℕ) (answer : Option Reading) → BeginsWithNumber text n rest → IfNone answer ((pairs : List (ℕ × ℕ)) → IsMoveText rest pairs → ⊥) → IfNone answer ((player : Option ℕ) (pairs : List (ℕ × ℕ)) → IsPlayersMove text player pairs → ⊥)
players_none text rest n (Some reading) begins nothing = tt
players_none text rest n None begins nothing = no_players_move text rest n begins nothing

-- a move alone
pub alone_none : (text : List ℕ) (answer : Option Reading) → IfNone answer ((pairs : List (ℕ × ℕ)) → IsMoveText text pairs → ⊥) → IfNone answer ((player : Option ℕ) (pairs : List (ℕ × ℕ)) → (player ≡ None) × IsMoveText text pairs → ⊥)
alone_none text (Some reading) nothing = tt
alone_none text None nothing = λ player pairs h. nothing pairs h.1

-- a moment, a player and a move
pub moment_none : (text rest : List ℕ) (n : ℕ) (answer : Option Reading) → BeginsWithNumber text n rest → IfNone answer ((player : Option ℕ) (pairs : List (ℕ × ℕ)) → IsPlayersMove rest player pairs → ⊥) → IfNone answer ((player : Option ℕ) (pairs : List (ℕ × ℕ)) → MayMean MomentAndPlayer text player pairs → ⊥)
moment_none text rest n (Some reading) begins nothing = tt
moment_none text rest n None begins nothing =
    λ player pairs h.
    nothing player pairs (subst (λ (t : List ℕ). IsPlayersMove t player pairs) (same_rest text h.0 n h.1 rest h.2 begins) h.3)

-- the move of a seat's message, in a list that was empty
pub said_one : (seat : ℕ) (text : List ℕ) (old new : List Reading) (reading : Reading) → old ≡ [] → new ≡ old ++ reading ∷ [] → (reading.player ≡ Some seat) × IsMoveText text reading.pairs → IsSaid seat text new
said_one seat text old new reading empty pushed found =
    subst (IsSaid seat text) (sym (pushed ∙ ap (λ (x : List Reading). x ++ reading ∷ []) empty)) (one reading found.0 found.1)

pub said_none : (seat : ℕ) (text : List ℕ) (old : List Reading) → old ≡ [] → ((pairs : List (ℕ × ℕ)) → ¬ IsMoveText text pairs) → IsSaid seat text old
said_none seat text old empty nothing = subst (IsSaid seat text) (sym empty) (none nothing)

-- the moves of a text, in a list that was empty
pub told_of : (text : List ℕ) (lead : Lead) (old new : List Reading) → old ≡ [] → AddsMeaning text lead old new → AreReadings text (Some lead) new
told_of text lead old new empty adds =
    told lead new (subst (Means text lead) (sym (adds.is ∙ ap (λ (x : List Reading). x ++ adds.meant) empty)) adds.means)

pub untold_of : (text : List ℕ) (first second third last : List Reading) → first ≡ [] → AddsMeaning text Nothing first second → AddsMeaning text Player second third → AddsMeaning text MomentAndPlayer third last → AreReadings text None last
untold_of text first second third last empty alone by_player at_moment =
    let is : last ≡ alone.meant ++ by_player.meant ++ at_moment.meant =
    at_moment.is
    ∙ ap (λ (x : List Reading). x ++ at_moment.meant) (by_player.is ∙ ap (λ (x : List Reading). x ++ by_player.meant) (alone.is ∙ ap (λ (x : List Reading). x ++ alone.meant) empty)) in
    subst (AreReadings text None) (sym is) (untold alone.meant by_player.meant at_moment.meant alone.means by_player.means at_moment.means)
