-- Sums over tallies, one after the other.
use Rattle.rbg_base.proofs.Common.{◌≡◌, ℕ, ◌+◌, ◌*◌, ◌<◌, ◌≤◌, ◌^◌, List, [], ◌∷◌, ◌++◌, length, take, map, get_or, Option, Some, None, refl, ap, ◌∙◌, arith, sum_by, take-map, sum_by-append, sum_by-take-le}
use Rattle.std.proofs.Math.Nat.{mul-le-mul_right}
use Rattle.rbg_base.proofs.CallerLemmas.{map-take_more}
use Rattle.rbg_questions.specs.declared.tally.EndingTally.{EndingTally}
use Rattle.rbg_questions.specs.Chance.{Counted, counted_by, scores_of}
use Rattle.rbg_questions.specs.internal.Bounds.{AreFew}
use Rattle.rbg_questions.specs.internal.Counts.{number_in, sum_in}
use Rattle.rbg_questions.specs.declared.sums.Counting.{Counting}
use Rattle.rbg_questions.specs.declared.sums.Counting.TheVariants.{Moves, Finished, Stopped}
use Rattle.rbg_questions.specs.Summary.{finished_in, finished_of, score_of, stopped_in, stopped_of, total_of}

-- the sum over the first tallies, and over the next one too
sum_more : (f : Counted → ℕ) (tallies : List EndingTally) (i : ℕ) (t : EndingTally) → i < length tallies → t ≡ get_or tallies i t → sum_by f (map counted_by (take (i + 1) tallies)) ≡ sum_by f (map counted_by (take i tallies)) + f (counted_by t)
sum_more f tallies i t within is =
    let longer : map counted_by (take (i + 1) tallies) ≡ map counted_by (take i tallies) ++ counted_by t ∷ [] = map-take_more counted_by tallies i t within is in
    let one : sum_by f (counted_by t ∷ []) ≡ 0 + f (counted_by t) = refl in
    let both : sum_by f (map counted_by (take (i + 1) tallies)) ≡ sum_by f (map counted_by (take i tallies)) + sum_by f (counted_by t ∷ []) =
    ap (sum_by f) longer ∙ sum_by-append f (map counted_by (take i tallies)) (counted_by t ∷ []) in
    omega (arith, both, one)

-- no part is more than the whole
pub sum_part : (f : Counted → ℕ) (tallies : List EndingTally) (i : ℕ) → sum_by f (map counted_by (take i tallies)) ≤ sum_by f (map counted_by tallies)
sum_part f tallies i =
    let same : sum_by f (take i (map counted_by tallies)) ≡ sum_by f (map counted_by (take i tallies)) = ap (sum_by f) (take-map counted_by i tallies) in
    omega (arith, same, sum_by-take-le f (map counted_by tallies) i)

-- no more matches are finished, or stopped, than there are
few_finished : (scores : Option (List ℕ)) (matches : ℕ) → finished_of scores matches ≤ matches
few_finished None matches = omega arith
few_finished (Some scores) matches = omega arith

few_stopped : (scores : Option (List ℕ)) (matches : ℕ) → stopped_of scores matches ≤ matches
few_stopped None matches = omega arith
few_stopped (Some scores) matches = omega arith

its_sum : (f : Counted → ℕ) (x : Counted) (all : List Counted) → sum_by f (x ∷ all) ≡ f x + sum_by f all
its_sum f x all =
    let both : sum_by f (x ∷ all) ≡ (0 + f x) + sum_by f all = sum_by-append f (x ∷ []) all in
    omega (arith, both)

abbrev pub its_matches : Counted → ℕ
its_matches counted = counted.matches

pub finished_few : (all : List Counted) → finished_in all ≤ sum_by (λ counted. counted.matches) all
finished_few [] = omega arith
finished_few (x ∷ all) =
    omega (arith, its_sum (number_in Finished) x all, its_sum its_matches x all, few_finished x.scores x.matches, finished_few all)

stopped_few : (all : List Counted) → stopped_in all ≤ sum_by (λ counted. counted.matches) all
stopped_few [] = omega arith
stopped_few (x ∷ all) =
    omega (arith, its_sum (number_in Stopped) x all, its_sum its_matches x all, few_stopped x.scores x.matches, stopped_few all)

-- what is counted fits a number of the code
pub sum_fits : (counting : Counting) (tallies : List EndingTally) → AreFew tallies → sum_by (number_in counting) (map counted_by tallies) < 2 ^ 64
sum_fits Moves tallies few = omega (arith, few.moves)
sum_fits Finished tallies few = omega (arith, finished_few (map counted_by tallies), few.matches)
sum_fits Stopped tallies few = omega (arith, stopped_few (map counted_by tallies), few.matches)

pub sum_is : (counting : Counting) (all : List Counted) → sum_by (number_in counting) all ≡ sum_in counting all
sum_is Moves all = refl
sum_is Finished all = refl
sum_is Stopped all = refl

-- what is scored in the matches of one ending
pub scored_few : (player : ℕ) (scores : Option (List ℕ)) (matches score : ℕ) → score ≡ score_of player scores → score ≤ 18446744073709551615 → score_of player scores * matches ≤ 18446744073709551615 * finished_of scores matches
scored_few player None matches score is few =
    let none : 0 * matches ≡ 0 = omega arith in
    omega (arith, none)
scored_few player (Some scores) matches score is few = mul-le-mul_right matches (omega (arith, is, few))

-- the sum so far and the next number are the next sum, which is no more than the whole
pub next_sum : (f : Counted → ℕ) (tallies : List EndingTally) (i m x : ℕ) (t : EndingTally) → i < length tallies → t ≡ get_or tallies i t → m ≡ sum_by f (map counted_by (take i tallies)) → x ≡ f (counted_by t) → m + x ≡ sum_by f (map counted_by (take (i + 1) tallies))
next_sum f tallies i m x t within is so_far next = omega (arith, sum_more f tallies i t within is, so_far, next)

pub next_part : (f : Counted → ℕ) (tallies : List EndingTally) (i m x : ℕ) (t : EndingTally) → i < length tallies → t ≡ get_or tallies i t → m ≡ sum_by f (map counted_by (take i tallies)) → x ≡ f (counted_by t) → m + x ≤ sum_by f (map counted_by tallies)
next_part f tallies i m x t within is so_far next =
    omega (arith, next_sum f tallies i m x t within is so_far next, sum_part f tallies (i + 1))

-- what a player scored in the matches so far and in those of the next ending
pub next_total : (player : ℕ) (tallies : List EndingTally) (i total score : ℕ) (t : EndingTally) → i < length tallies → t ≡ get_or tallies i t → score ≡ score_of player (scores_of t.ending) → total ≡ total_of player (map counted_by (take i tallies)) → total + score * t.matches ≡ total_of player (map counted_by (take (i + 1) tallies))
next_total player tallies i total score t within is scored so_far =
    next_sum (λ (counted : Counted). score_of player counted.scores * counted.matches) tallies i total (score * t.matches) t within is so_far (ap (λ s. s * t.matches) scored)

pub next_bound : (player : ℕ) (tallies : List EndingTally) (i total score : ℕ) (t : EndingTally) → i < length tallies → t ≡ get_or tallies i t → score ≡ score_of player (scores_of t.ending) → score ≤ 18446744073709551615 → total ≤ 18446744073709551615 * finished_in (map counted_by (take i tallies)) → total + score * t.matches ≤ 18446744073709551615 * finished_in (map counted_by (take (i + 1) tallies))
next_bound player tallies i total score t within is scored small so_far =
    let here : score_of player (scores_of t.ending) * t.matches ≤ 18446744073709551615 * finished_of (scores_of t.ending) t.matches = scored_few player (scores_of t.ending) t.matches score scored small in
    let same : score * t.matches ≡ score_of player (scores_of t.ending) * t.matches = ap (λ s. s * t.matches) scored in
    let more : finished_in (map counted_by (take (i + 1) tallies)) ≡ finished_in (map counted_by (take i tallies)) + finished_of (scores_of t.ending) t.matches = sum_more (number_in Finished) tallies i t within is in
    omega (arith, so_far, here, same, more)

pub next_small : (player : ℕ) (tallies : List EndingTally) (i total score : ℕ) (t : EndingTally) → AreFew tallies → i < length tallies → t ≡ get_or tallies i t → score ≡ score_of player (scores_of t.ending) → score ≤ 18446744073709551615 → total ≤ 18446744073709551615 * finished_in (map counted_by (take i tallies)) → total + score * t.matches ≤ 18446744073709551615 * 1000000
next_small player tallies i total score t few within is scored small so_far =
    let next = next_bound player tallies i total score t within is scored small so_far in
    let part : finished_in (map counted_by (take (i + 1) tallies)) ≤ finished_in (map counted_by tallies) = sum_part (number_in Finished) tallies (i + 1) in
    omega (arith, next, part, finished_few (map counted_by tallies), few.matches)
