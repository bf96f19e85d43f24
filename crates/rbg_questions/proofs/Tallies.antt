-- Matches that are counted, one after the other.
use Rattle.rbg_base.proofs.Common.{◌≡◌, ◌≢◌, ℕ, zero, suc, ◌+◌, ◌*◌, ◌<◌, ◌≤◌, List, [], ◌∷◌, ◌++◌, length, map, slice_get, get_or, set, Option, Some, Result, Ok, Err, refl, sym, ap, ◌∙◌, subst, arith, All, AllPairs, OnOk, sum_by, All-append, All-cons, All-head, All-map, All-nil, All-tail, flat_map, slice_get_within, get_or_from_slice_get, sum_by-append}
use Rattle.std.proofs.lemmas.List.{length-append, map-append, set_at}
use Rattle.rbg_rules.specs.Meaning.{AbstractGame, AbstractPlace}
use Rattle.rbg_search.proofs.Counts.{all_pairs_append}
use Rattle.rbg_questions.specs.declared.tally.EndingTally.{EndingTally}
use Rattle.rbg_questions.specs.Answers.{counted_text}
use Rattle.rbg_questions.specs.Chance.{Ends, Counted, counted_by, scores_of, AreMatches, AreTallied}
use Rattle.rbg_questions.specs.internal.Counting.{CountsIn, again, first, IsSmall, IsTallyAt}
use Rattle.rbg_questions.specs.internal.Moving.{IsPlayedTo}
use Rattle.rbg_questions.proofs.PlayedMatches.{few_in, moves_one}

abbrev its_scores : Counted → Option (List ℕ)
its_scores counted = counted.scores

abbrev its_matches : Counted → ℕ
its_matches counted = counted.matches

abbrev its_moves : Counted → ℕ
its_moves counted = counted.moves

-- no match is counted
pub tallied_none : (game : AbstractGame) (from : AbstractPlace) → AreTallied game from 0 []
tallied_none game from = record { matches = All-nil (AreMatches game from); different = λ i j d less within. absurd (omega (arith, within)); sum = refl }

-- the items of a list around one of them
all_parts : {X : Type 0} (P : X → Type 0) (front : List X) (x : X) (later : List X) → All P (front ++ x ∷ later) → All P front × P x × All P later
all_parts P [] x later h = (All-nil P, All-head P x later h, All-tail P x later h)
all_parts P (f ∷ front) x later h =
    let rest = all_parts P front x later (All-tail P f (front ++ x ∷ later) h) in
    (All-cons P f front (All-head P f (front ++ x ∷ later) h) rest.0, rest.1, rest.2)

one_match : (game : AbstractGame) (from : AbstractPlace) (scores : Option (List ℕ)) (moves : List (List (ℕ × ℕ))) → Ends game from moves scores → AreMatches game from (record { scores = scores; matches = 1; moves = length moves })
one_match game from scores moves ends = record { matches = moves ∷ []; ended = All-cons (λ m. Ends game from m scores) moves [] ends (All-nil (λ m. Ends game from m scores)); many = refl; some = omega arith; moved = sym (moves_one moves) }

more_matches : (game : AbstractGame) (from : AbstractPlace) (scores : Option (List ℕ)) (many made : ℕ) (moves : List (List (ℕ × ℕ))) → AreMatches game from (record { scores = scores; matches = many; moves = made }) → Ends game from moves scores → AreMatches game from (record { scores = scores; matches = many + 1; moves = made + length moves })
more_matches game from scores many made moves are ends = record {
  matches = are.matches ++ moves ∷ [];
  ended = All-append (λ m. Ends game from m scores) are.matches (moves ∷ []) are.ended (All-cons (λ m. Ends game from m scores) moves [] ends (All-nil (λ m. Ends game from m scores)));
  many = ap (λ n. n + 1) are.many ∙ sym (length-append are.matches (moves ∷ []));
  some = omega arith;
  moved = omega (arith, are.moved, moves_one moves, sum_by-append (λ (m : List (List (ℕ × ℕ))). length m) are.matches (moves ∷ []));
}

sum_parts : (front : List Counted) (x : Counted) (later : List Counted) → sum_by its_matches (front ++ x ∷ later) ≡ sum_by its_matches front + (x.matches + sum_by its_matches later)
sum_parts front x later =
    let whole : sum_by its_matches (front ++ x ∷ later) ≡ sum_by its_matches front + sum_by its_matches (x ∷ later) = sum_by-append its_matches front (x ∷ later) in
    let one : sum_by its_matches (x ∷ later) ≡ (0 + x.matches) + sum_by its_matches later = sum_by-append its_matches (x ∷ []) later in
    let rest : sum_by its_matches (x ∷ later) ≡ x.matches + sum_by its_matches later = omega (arith, one) in
    whole ∙ ap (λ n. sum_by its_matches front + n) rest

-- each of these differs from the scores
apart_all : (all : List Counted) (scores : Option (List ℕ)) → All (λ counted. counted.scores ≢ scores) all → All (λ one. All (λ other. one ≢ other) (scores ∷ [])) (map its_scores all)
apart_all [] scores h = All-nil (λ one. All (λ other. one ≢ other) (scores ∷ []))
apart_all (x ∷ all) scores h =
    All-cons (λ one. All (λ other. one ≢ other) (scores ∷ [])) x.scores (map its_scores all)
    (All-cons (λ other. x.scores ≢ other) scores [] (All-head (λ (counted : Counted). counted.scores ≢ scores) x all h) (All-nil (λ other. x.scores ≢ other)))
    (apart_all all scores (All-tail (λ (counted : Counted). counted.scores ≢ scores) x all h))

one_alone : {X : Type 0} (R : X → X → Type 0) (x : X) → AllPairs R (x ∷ [])
one_alone R x = λ i j d less within. absurd (omega (arith, less, within))

-- one more match is counted
tallied_again : (game : AbstractGame) (from : AbstractPlace) (count : ℕ) (scores : Option (List ℕ)) (moves : List (List (ℕ × ℕ))) (front later : List Counted) (matches made : ℕ) → AreTallied game from count (front ++ (record { scores = scores; matches = matches; moves = made }) ∷ later) → Ends game from moves scores → AreTallied game from (count + 1) (front ++ (record { scores = scores; matches = matches + 1; moves = made + length moves }) ∷ later)
tallied_again game from count scores moves front later matches made tallied ends =
    let old : Counted = record { scores = scores; matches = matches; moves = made } in
    let new : Counted = record { scores = scores; matches = matches + 1; moves = made + length moves } in
    let parts = all_parts (AreMatches game from) front old later tallied.matches in
    let same : map its_scores (front ++ old ∷ later) ≡ map its_scores (front ++ new ∷ later) = map-append its_scores front (old ∷ later) ∙ sym (map-append its_scores front (new ∷ later)) in
    let before_sum : sum_by its_matches (front ++ old ∷ later) ≡ sum_by its_matches front + (matches + sum_by its_matches later) = sum_parts front old later in
    let after_sum : sum_by its_matches (front ++ new ∷ later) ≡ sum_by its_matches front + ((matches + 1) + sum_by its_matches later) = sum_parts front new later in
    record {
      matches = All-append (AreMatches game from) front (new ∷ later) parts.0 (All-cons (AreMatches game from) new later (more_matches game from scores matches made moves parts.1 ends) parts.2);
      different = subst (AllPairs (λ a b. a ≢ b)) same tallied.different;
      sum = omega (arith, before_sum, after_sum, tallied.sum);
    }

tallied_first : (game : AbstractGame) (from : AbstractPlace) (count : ℕ) (scores : Option (List ℕ)) (moves : List (List (ℕ × ℕ))) (before : List Counted) → AreTallied game from count before → Ends game from moves scores → All (λ counted. counted.scores ≢ scores) before → AreTallied game from (count + 1) (before ++ (record { scores = scores; matches = 1; moves = length moves }) ∷ [])
tallied_first game from count scores moves before tallied ends apart =
    let new : Counted = record { scores = scores; matches = 1; moves = length moves } in
    let sum : sum_by its_matches (before ++ new ∷ []) ≡ sum_by its_matches before + (1 + 0) = sum_parts before new [] in
    record {
      matches = All-append (AreMatches game from) before (new ∷ []) tallied.matches (All-cons (AreMatches game from) new [] (one_match game from scores moves ends) (All-nil (AreMatches game from)));
      different = subst (AllPairs (λ a b. a ≢ b)) (sym (map-append its_scores before (new ∷ [])))
          (all_pairs_append (λ a b. a ≢ b) (map its_scores before) (scores ∷ []) tallied.different (one_alone (λ a b. a ≢ b) scores) (apart_all before scores apart));
      sum = omega (arith, sum, tallied.sum);
    }

tallied_so : (game : AbstractGame) (from : AbstractPlace) (count : ℕ) (scores : Option (List ℕ)) (moves : List (List (ℕ × ℕ))) (before after : List Counted) → AreTallied game from count before → Ends game from moves scores → CountsIn scores (length moves) before after → AreTallied game from (count + 1) after
tallied_so game from count scores moves _ _ tallied ends (again front later matches made) = tallied_again game from count scores moves front later matches made tallied ends
tallied_so game from count scores moves before _ tallied ends (first apart) = tallied_first game from count scores moves before tallied ends apart

pub tallied_more : (game : AbstractGame) (from : AbstractPlace) (count made : ℕ) (before after : List Counted) (scores : Option (List ℕ)) → AreTallied game from count before → IsPlayedTo game from scores made → CountsIn scores made before after → AreTallied game from (count + 1) after
tallied_more game from count made before after scores tallied played counts =
    tallied_so game from count scores played.moves before after tallied played.ends (subst (λ (n : ℕ). CountsIn scores n before after) played.many counts)

-- no tally has more matches than are counted, and none has more than 10,000 moves for each of its matches
few_of : (game : AbstractGame) (from : AbstractPlace) (counted : Counted) → AreMatches game from counted → counted.moves ≤ 10000 * counted.matches
few_of game from counted are =
    omega (arith, are.many, are.moved, few_in game from counted.scores are.matches are.ended)

small_sum : (game : AbstractGame) (from : AbstractPlace) (tallies : List EndingTally) (count : ℕ) → All (AreMatches game from) (map counted_by tallies) → sum_by its_matches (map counted_by tallies) ≤ count → count < 1000001 → All IsSmall tallies
small_sum game from [] count are few small = All-nil IsSmall
small_sum game from (t ∷ tallies) count are few small =
    let parts : sum_by its_matches (counted_by t ∷ map counted_by tallies) ≡ (0 + t.matches) + sum_by its_matches (map counted_by tallies) = sum_by-append its_matches (counted_by t ∷ []) (map counted_by tallies) in
    let moved = few_of game from (counted_by t) (All-head (AreMatches game from) (counted_by t) (map counted_by tallies) are) in
    All-cons IsSmall t tallies
    (omega (arith, parts, few, small), omega (arith, parts, few, small, moved))
    (small_sum game from tallies count (All-tail (AreMatches game from) (counted_by t) (map counted_by tallies) are) (omega (arith, parts, few)) small)

pub small_tallies : (game : AbstractGame) (from : AbstractPlace) (count : ℕ) (tallies : List EndingTally) → AreTallied game from count (map counted_by tallies) → count < 1000001 → All IsSmall tallies
small_tallies game from count tallies tallied small = small_sum game from tallies count tallied.matches (omega (arith, tallied.sum)) small

-- no more moves were made than may be in so many matches
moves_sum : (game : AbstractGame) (from : AbstractPlace) (all : List Counted) → All (AreMatches game from) all → sum_by its_moves all ≤ 10000 * sum_by its_matches all
moves_sum game from [] are = omega arith
moves_sum game from (x ∷ all) are =
    let matches : sum_by its_matches (x ∷ all) ≡ (0 + x.matches) + sum_by its_matches all = sum_by-append its_matches (x ∷ []) all in
    let moves : sum_by its_moves (x ∷ all) ≡ (0 + x.moves) + sum_by its_moves all = sum_by-append its_moves (x ∷ []) all in
    let here = few_of game from x (All-head (AreMatches game from) x all are) in
    let rest = moves_sum game from all (All-tail (AreMatches game from) x all are) in
    omega (arith, matches, moves, here, rest)

pub few_tallied : (game : AbstractGame) (from : AbstractPlace) (count : ℕ) (all : List Counted) → AreTallied game from count all → sum_by (λ counted. counted.moves) all ≤ 10000 * count
few_tallied game from count all tallied =
    omega (arith, moves_sum game from all tallied.matches, tallied.sum)

-- the items before the one at an index, and those after it
parts_at : {X : Type 0} (xs : List X) (i : ℕ) (x : X) → slice_get xs i ≡ Some x → (front : List X) × (later : List X) × (xs ≡ front ++ x ∷ later) × (length front ≡ i)
parts_at [] i x is = absurd (omega (arith, slice_get_within [] i x is))
parts_at (y ∷ xs) zero x is =
    let here : Some y ≡ Some x = is in
    let same : y ≡ x = cc in
    ([], xs, (λ k. same k ∷ xs), refl)
parts_at (y ∷ xs) (suc i) x is =
    let rest = parts_at xs i x is in
    (y ∷ rest.0, rest.1, (λ k. y ∷ rest.2 k), ap suc rest.3)

-- the tally at an index has one match more
pub counts_again : (tallies : List EndingTally) (index made : ℕ) (scores : Option (List ℕ)) (after : List EndingTally) → (at : IsTallyAt scores tallies index) → after ≡ set tallies index (record { ending = at.tally.ending; matches = at.tally.matches + 1; moves = at.tally.moves + made }) → CountsIn scores made (map counted_by tallies) (map counted_by after)
counts_again tallies index made scores after at set_is =
    let new : EndingTally = record { ending = at.tally.ending; matches = at.tally.matches + 1; moves = at.tally.moves + made } in
    let parts = parts_at tallies index at.tally at.stands in
    let front = parts.0 in
    let later = parts.1 in
    let after_is : after ≡ front ++ new ∷ later = set_is ∙ (ap (λ ts. set ts index new) parts.2 ∙ set_at front at.tally later new index parts.3) in
    let before_counted : map counted_by tallies ≡ map counted_by front ++ (record { scores = scores; matches = at.tally.matches; moves = at.tally.moves }) ∷ map counted_by later =
    ap (map counted_by) parts.2 ∙ (map-append counted_by front (at.tally ∷ later) ∙ (λ i. map counted_by front ++ (record { scores = at.same i; matches = at.tally.matches; moves = at.tally.moves }) ∷ map counted_by later)) in
    let after_counted : map counted_by after ≡ map counted_by front ++ (record { scores = scores; matches = at.tally.matches + 1; moves = at.tally.moves + made }) ∷ map counted_by later =
    ap (map counted_by) after_is ∙ (map-append counted_by front (new ∷ later) ∙ (λ i. map counted_by front ++ (record { scores = at.same i; matches = at.tally.matches + 1; moves = at.tally.moves + made }) ∷ map counted_by later)) in
    subst (λ (cs : List Counted). CountsIn scores made cs (map counted_by after)) (sym before_counted)
    (subst (λ (cs : List Counted). CountsIn scores made (map counted_by front ++ (record { scores = scores; matches = at.tally.matches; moves = at.tally.moves }) ∷ map counted_by later) cs) (sym after_counted)
    (again (map counted_by front) (map counted_by later) at.tally.matches at.tally.moves))

pub counts_at : (tallies : List EndingTally) (index made : ℕ) (d e f : EndingTally) (scores : Option (List ℕ)) (after : List EndingTally) → (at : IsTallyAt scores tallies index) → after ≡ set tallies index (record { ending = (get_or tallies index e).ending; matches = (get_or tallies index d).matches + 1; moves = (get_or tallies index f).moves + made }) → CountsIn scores made (map counted_by tallies) (map counted_by after)
counts_at tallies index made d e f scores after at is =
    let first_one : get_or tallies index d ≡ at.tally = get_or_from_slice_get tallies index at.tally d at.stands in
    let other_one : get_or tallies index e ≡ at.tally = get_or_from_slice_get tallies index at.tally e at.stands in
    let third_one : get_or tallies index f ≡ at.tally = get_or_from_slice_get tallies index at.tally f at.stands in
    counts_again tallies index made scores after at (is ∙ (λ i. set tallies index (record { ending = (other_one i).ending; matches = (first_one i).matches + 1; moves = (third_one i).moves + made })))

-- the lines of tallies
pub counted_lines : (tallies : List EndingTally) → flat_map counted_text (map counted_by tallies) ≡ flat_map (λ tally. counted_text (counted_by tally)) tallies
counted_lines [] = refl
counted_lines (t ∷ tallies) = ap (λ rest. counted_text (counted_by t) ++ rest) (counted_lines tallies)

-- the first match that ended so
pub counts_first : (tallies after : List EndingTally) (new : EndingTally) → All (λ tally. scores_of tally.ending ≢ scores_of new.ending) tallies → new.matches ≡ 1 → after ≡ tallies ++ new ∷ [] → CountsIn (scores_of new.ending) new.moves (map counted_by tallies) (map counted_by after)
counts_first tallies after new apart one is =
    let counted : map counted_by after ≡ map counted_by tallies ++ (record { scores = scores_of new.ending; matches = 1; moves = new.moves }) ∷ [] =
    ap (map counted_by) is ∙ (map-append counted_by tallies (new ∷ []) ∙ (λ i. map counted_by tallies ++ (record { scores = scores_of new.ending; matches = one i; moves = new.moves }) ∷ [])) in
    subst (λ (cs : List Counted). CountsIn (scores_of new.ending) new.moves (map counted_by tallies) cs) (sym counted)
    (first (All-map (λ (counted : Counted). counted.scores ≢ scores_of new.ending) counted_by tallies apart))

pub first_counted : {T E : Type 0} (result : Result T E) (tallies after : List EndingTally) (new : EndingTally) → All (λ tally. scores_of tally.ending ≢ scores_of new.ending) tallies → new.matches ≡ 1 → OnOk result (after ≡ tallies ++ new ∷ []) → OnOk result (CountsIn (scores_of new.ending) new.moves (map counted_by tallies) (map counted_by after))
first_counted (Ok x) tallies after new apart one is = counts_first tallies after new apart one is
first_counted (Err e) tallies after new apart one is = tt
