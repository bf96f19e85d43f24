-- Matches that are played by chance, one move and one match after the other.
use Rattle.rbg_base.proofs.Common.{◌≡◌, ℕ, ◌+◌, ◌*◌, ◌<◌, ◌≤◌, List, [], ◌∷◌, ◌++◌, length, take, slice_get, Bool, true, false, Option, Some, None, refl, sym, ap, ◌∙◌, subst, arith, All, Contains, slice_get_within, get_or_from_slice_get, All-head, All-tail, sum_by-append}
use Rattle.std.proofs.lemmas.List.{length-append}
use Rattle.rbg_rules.specs.Meaning.{AbstractGame, AbstractPlace, Legal, IsLegal, Finished}
use Rattle.rbg_moves.specs.Listing.{IsGathered}
use Rattle.rbg_moves.specs.Settling.{Settles}
use Rattle.rbg_questions.specs.declared.question_error.QuestionError.{QuestionError}
use Rattle.rbg_questions.specs.Chance.{Plays, no_move, one_more, Ends, is_over, is_stopped, moves_in, IsUnmoved, unlisted, IsUnplayed}
use Rattle.rbg_questions.specs.Places.{no_memory}
use Rattle.rbg_questions.specs.internal.Moving.{MovesOn, moved, rests, IsPlayedTo}

-- an empty list of all legal moves
nothing_in : {X : Type 0} (x : X) → Contains [] x → ⊥
nothing_in x h = omega (arith, h.1)

pub nothing_listed : (game : AbstractGame) (place : AbstractPlace) (max : ℕ) (all : List (List (ℕ × ℕ))) (cut : Bool) → 0 < max → IsGathered game place max all cut → length all ≡ 0 → Finished game place
nothing_listed game place max all true some gathered none = absurd (omega (arith, some, gathered.full refl, none))
nothing_listed game place max [] false some gathered none = record { no_move = λ pairs to legal. nothing_in pairs (gathered.whole refl pairs (to, legal)) }
nothing_listed game place max (x ∷ all) false some gathered none = absurd (omega (arith, none))

-- the place to which a move leads with the keeper's moves after it
pub moves_on : (game : AbstractGame) (from middle to : AbstractPlace) (pairs : List (ℕ × ℕ)) → Legal game from pairs middle → Settles game middle to → MovesOn game from true to
moves_on game from middle to pairs legal settles = moved (record { middle = middle; legal = legal; settles = settles })

-- So many moves were made from the place.
pub record PlayedSo (game : AbstractGame) (from : AbstractPlace) (count : ℕ) (to : AbstractPlace) : Type 0 where
  pub moves : List (List (ℕ × ℕ))
  pub many : length moves ≡ count
  pub plays : Plays game from moves to

pub played_none : (game : AbstractGame) (from to : AbstractPlace) → to ≡ from → PlayedSo game from 0 to
played_none game from to same = subst (PlayedSo game from 0) (sym same) (record { moves = []; many = refl; plays = no_move })

pub played_one : (game : AbstractGame) (from middle to : AbstractPlace) (many : ℕ) → PlayedSo game from many middle → MovesOn game middle true to → PlayedSo game from (many + 1) to
played_one game from middle to many so (moved {pairs} leads) = record {
  moves = so.moves ++ pairs ∷ [];
  many = length-append so.moves (pairs ∷ []) ∙ ap (λ n. n + 1) so.many;
  plays = one_more so.plays leads;
}

pub rests_here : (game : AbstractGame) (place to : AbstractPlace) → MovesOn game place false to → Finished game place × (to ≡ place)
rests_here game place _ (rests over) = (over, refl)

-- how the match ends
pub ends_over : (game : AbstractGame) (from middle to : AbstractPlace) (many made : ℕ) (scores : List ℕ) → made ≡ many → PlayedSo game from many middle → many < 10000 → MovesOn game middle false to → scores ≡ take (length game.players) to.state.values → IsPlayedTo game from (Some scores) made
ends_over game from middle to many made scores said so few on same =
    let here = rests_here game middle to on in
    record {
      moves = so.moves;
      ends = subst (λ (s : List ℕ). Ends game from so.moves (Some s)) (sym (same ∙ ap (λ (p : AbstractPlace). take (length game.players) p.state.values) here.1))
          (is_over (omega (arith, so.many, few)) so.plays here.0);
      many = said ∙ sym so.many;
    }

pub ends_stopped : (game : AbstractGame) (from to : AbstractPlace) (many made : ℕ) → PlayedSo game from many to → many ≡ 10000 → made ≡ 10000 → IsPlayedTo game from None made
ends_stopped game from to many made so all said = record { moves = so.moves; ends = is_stopped (so.many ∙ all) so.plays; many = said ∙ sym all ∙ sym so.many }

-- no match has more moves
few_moves : (game : AbstractGame) (from : AbstractPlace) (moves : List (List (ℕ × ℕ))) (scores : Option (List ℕ)) → Ends game from moves scores → length moves ≤ 10000
few_moves game from moves _ (is_over few plays over) = omega (arith, few)
few_moves game from moves _ (is_stopped all plays) = omega (arith, all)

pub few_played : (game : AbstractGame) (from : AbstractPlace) (scores : Option (List ℕ)) (made : ℕ) → IsPlayedTo game from scores made → made ≤ 10000
few_played game from scores made played = omega (arith, few_moves game from played.moves scores played.ends, played.many)

-- the moves of one match
pub moves_one : (moves : List (List (ℕ × ℕ))) → moves_in (moves ∷ []) ≡ length moves
moves_one moves =
    let is : moves_in (moves ∷ []) ≡ 0 + length moves = refl in
    omega (arith, is)

pub few_in : (game : AbstractGame) (from : AbstractPlace) (scores : Option (List ℕ)) (matches : List (List (List (ℕ × ℕ)))) → All (λ moves. Ends game from moves scores) matches → moves_in matches ≤ 10000 * length matches
few_in game from scores [] ended = omega arith
few_in game from scores (moves ∷ matches) ended =
    let parts : moves_in (moves ∷ matches) ≡ (0 + length moves) + moves_in matches = sum_by-append (λ (m : List (List (ℕ × ℕ))). length m) (moves ∷ []) matches in
    let here = few_moves game from moves scores (All-head (λ m. Ends game from m scores) moves matches ended) in
    let rest = few_in game from scores matches (All-tail (λ m. Ends game from m scores) moves matches ended) in
    omega (arith, parts, here, rest)

pub unplayed_here : (game : AbstractGame) (from to : AbstractPlace) (many : ℕ) (refusal : QuestionError) → PlayedSo game from many to → many < 10000 → IsUnmoved game to refusal → IsUnplayed game from refusal
unplayed_here game from to many refusal so few unmoved =
    record { moves = so.moves; few = omega (arith, so.many, few); to = to; plays = so.plays; unmoved = unmoved }

pub unplayed_memory : (game : AbstractGame) (from : AbstractPlace) → IsUnplayed game from Rattle.rbg_questions.specs.declared.question_error.QuestionError.TheVariants.Memory
unplayed_memory game from = record { moves = []; few = omega arith; to = from; plays = no_move; unmoved = unlisted no_memory }

-- what holds of each move holds of the one at an index
pub legal_at : (game : AbstractGame) (place : AbstractPlace) (all : List (List (ℕ × ℕ))) (index : ℕ) (pairs : List (ℕ × ℕ)) → All (IsLegal game place) all → slice_get all index ≡ Some pairs → IsLegal game place pairs
legal_at game place all index pairs legal there =
    subst (IsLegal game place) (get_or_from_slice_get all index pairs pairs there) (legal index pairs (slice_get_within all index pairs there))
