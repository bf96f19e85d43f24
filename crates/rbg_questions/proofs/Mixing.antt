-- Keys of lists of numbers, one number after the other.
use Rattle.rbg_base.proofs.Common.{◌≡◌, ℕ, List, [], ◌∷◌, ◌++◌, refl, ◌+◌, ◌<◌, length, take, get_or, ◌∙◌, ap, sym, take_more}
use Rattle.rbg_questions.specs.Keys.{mixed, mixed_all}

mixed_more : (key : ℕ) (ns : List ℕ) (n : ℕ) → mixed_all key (ns ++ n ∷ []) ≡ mixed (mixed_all key ns) n
mixed_more key [] n = refl
mixed_more key (m ∷ ns) n = mixed_more (mixed key m) ns n

pub mixes_on : (first key new : ℕ) (ns : List ℕ) (i n : ℕ) → i < length ns → key ≡ mixed_all first (take i ns) → n ≡ get_or ns i 0 → new ≡ mixed key n → new ≡ mixed_all first (take (i + 1) ns)
mixes_on first key new ns i n under is at step =
    step ∙ ((λ k. mixed (is k) (at k)) ∙ (sym (mixed_more first (take i ns) (get_or ns i 0)) ∙ ap (mixed_all first) (sym (take_more ns i 0 under))))
