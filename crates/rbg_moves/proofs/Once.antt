-- Where an item stands for the first time.
use Rattle.rbg_base.proofs.Common.{◌≡◌, ◌≢◌, ℕ, ◌<◌, List, length, get_or, take, sym, ◌∙◌, arith, AllPairs, Contains}
use Rattle.std.proofs.lemmas.List.{length-take, get_or-take}

-- A pair stands for the first time where it was met.
pub met_once : (pairs : List (ℕ × ℕ)) (k : ℕ) (q : ℕ × ℕ) → AllPairs (λ a b. a ≢ b) pairs → k < length pairs → get_or pairs k q ≡ q → ¬ Contains (take k pairs) q
met_once pairs k q different below is (i, under, same) =
    let before : i < k = omega (arith, under, length-take k pairs) in
    different i k q before below (sym (get_or-take k pairs i q before) ∙ same ∙ sym is)
