-- Sums over a list, item by item; and what is counted after the first moves is counted from the place.
use Rattle.rbg_base.proofs.Common.{◌≡◌, ℕ, suc, ◌+◌, ◌-◌, ◌<◌, ◌≤◌, List, [], ◌∷◌, ◌++◌, length, take, get_or, zero, refl, subst, sym, arith, All, Some, slice_get, slice_get_within, get_or_from_slice_get}
use Rattle.std.proofs.lemmas.List.{take_more, take_all}
use Rattle.rbg_rules.specs.Meaning.{AbstractGame, AbstractPlace, IsLegal}
use Rattle.rbg_moves.specs.Settling.{Settles}
use Rattle.rbg_questions.specs.Counting.{AreCounted, AreCountedAfter, Sums}
use Rattle.rbg_questions.specs.Places.{AreLegalMoves}
use Rattle.rbg_questions.specs.Counting.Sums.{none, more}
use Rattle.rbg_questions.specs.declared.extent.Extent.{Extent}
use Rattle.rbg_questions.specs.declared.extent.Extent.TheVariants.{Moves}

-- one more item's numbers are added
pub sums_more : {A : Type 0} (Has : A → ℕ → ℕ → Type 0) (xs : List A) (k : ℕ) (x : A) (m n m' n' p q : ℕ) → k < length xs → x ≡ get_or xs k x → Sums Has (take k xs) m n → Has x m' n' → p ≡ m + m' → q ≡ n + n' → Sums Has (take (k + 1) xs) p q
sums_more Has xs k x m n m' n' p q below is sums one p_is q_is =
    let whole : Sums Has (take k xs ++ get_or xs k x ∷ []) (m + m') (n + n') = more sums (subst (λ y. Has y m' n') is one) in
    let there : Sums Has (take (k + 1) xs) (m + m') (n + n') = subst (λ ys. Sums Has ys (m + m') (n + n')) (sym (take_more xs k x below)) whole in
    subst (λ a. Sums Has (take (k + 1) xs) a q) (sym p_is) (subst (λ b. Sums Has (take (k + 1) xs) (m + m') b) (sym q_is) there)

-- at the end the sums are over the whole list
pub sums_end : {A : Type 0} (Has : A → ℕ → ℕ → Type 0) (xs : List A) (k m n : ℕ) → length xs ≤ k → Sums Has (take k xs) m n → Sums Has xs m n
sums_end Has xs k m n all sums = subst (λ ys. Sums Has ys m n) (take_all k xs all) sums

-- the sums after the legal moves of the place to which the keeper's moves lead
counted_next : (game : AbstractGame) (moves : ℕ) (extent : Extent) (place to : AbstractPlace) (all : List (List (ℕ × ℕ))) (m n : ℕ) → Settles game place to → AreLegalMoves game to all → Sums (AreCountedAfter game moves extent to) all m n → AreCounted game (suc moves) extent place m n
counted_next game moves extent place to all m n settles legal sums = (to, all, settles, legal, sums)

pub counted_from : (game : AbstractGame) (moves : ℕ) (extent : Extent) (place to : AbstractPlace) (all : List (List (ℕ × ℕ))) (m n : ℕ) → 0 < moves → Settles game place to → AreLegalMoves game to all → Sums (AreCountedAfter game (moves - 1) extent to) all m n → AreCounted game moves extent place m n
counted_from game moves extent place to all m n some settles legal sums =
    let next : suc (moves - 1) ≡ moves = omega (arith, some) in
    subst (λ k. AreCounted game k extent place m n) next (counted_next game (moves - 1) extent place to all m n settles legal sums)

-- what holds of all items holds of the one that is found
pub all_at : {A : Type 0} (P : A → Type 0) (xs : List A) (i : ℕ) (x : A) → All P xs → slice_get xs i ≡ Some x → P x
all_at P xs i x all is = subst P (get_or_from_slice_get xs i x x is) (all i x (slice_get_within xs i x is))

-- where each item has 1 and 0, the sums are the length and 0
ones_so_far : {A : Type 0} (Has : A → ℕ → ℕ → Type 0) (d : A) (xs : List A) → All (λ x. Has x 1 0) xs → (k : ℕ) → k ≤ length xs → Sums Has (take k xs) k 0
ones_so_far Has d xs one zero within = none
ones_so_far Has d xs one (suc k) within =
    let below : k < length xs = omega (arith, within) in
    let so_far : Sums Has (take k xs) k 0 = ones_so_far Has d xs one k (omega (arith, below)) in
    let step : Sums Has (take (k + 1) xs) (k + 1) 0 = subst (λ ys. Sums Has ys (k + 1) 0) (sym (take_more xs k d below)) (more so_far (one k d below)) in
    let next : k + 1 ≡ suc k = omega (arith) in
    subst (λ n. Sums Has (take n xs) n 0) next step

-- each legal move is one sequence, where nothing is asked after it
pub all_going : (game : AbstractGame) (to : AbstractPlace) (firsts : List (List (ℕ × ℕ))) → All (IsLegal game to) firsts → Sums (AreCountedAfter game 0 Moves to) firsts (length firsts) 0
all_going game to firsts legal =
    let Has = AreCountedAfter game 0 Moves to in
    let each : All (λ pairs. Has pairs 1 0) firsts = λ i d within. ((legal i d within).0, (legal i d within).1, (refl, refl)) in
    let within : length firsts ≤ length firsts = omega (arith) in
    sums_end Has firsts (length firsts) (length firsts) 0 within (ones_so_far Has [] firsts each (length firsts) within)
