-- Moves in their order.
use Rattle.rbg_base.proofs.Common.{◌≡◌, ℕ, ◌+◌, ◌<◌, List, [], ◌∷◌, length, map, Bool, ◌∙◌, arith, ◌++◌, flat_map, refl, ap}
use Rattle.std.proofs.lemmas.List.{get_or-map, length-map}
use Rattle.std.specs.List.Sorted.{IsSortedBy}

-- What is sorted by what it shows shows what is sorted.
pub sorted_shown : {P X : Type 0} (f : P → X) (lt : X → X → Bool) (xs : List P) → IsSortedBy (λ a b. lt (f a) (f b)) xs → IsSortedBy lt (map f xs)
sorted_shown f lt [] sorted k d low high = absurd (omega (arith, high))
sorted_shown f lt (x ∷ xs) sorted k d low high =
    let long : length (map f (x ∷ xs)) ≡ length (x ∷ xs) = length-map (x ∷ xs) f in
    let within : k + 1 < length (x ∷ xs) = omega (arith, high, long) in
    (λ i. lt (get_or-map f (x ∷ xs) (k + 1) x d within i) (get_or-map f (x ∷ xs) k x d (omega (arith, within)) i)) ∙ sorted k x low within

-- The texts of what is shown, one after the other.
pub lines_shown : {P X : Type 0} (f : P → X) (text : X → List ℕ) (xs : List P) → flat_map text (map f xs) ≡ flat_map (λ x. text (f x)) xs
lines_shown f text [] = refl
lines_shown f text (x ∷ xs) = ap (λ rest. text (f x) ++ rest) (lines_shown f text xs)
