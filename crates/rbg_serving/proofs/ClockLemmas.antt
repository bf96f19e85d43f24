-- Lemmas on clocks over a list.
use Rattle.rbg_base.proofs.Common.{◌≡◌, ◌<◌, ℕ, ◌+◌, List, [], ◌∷◌, ◌++◌, length, take, replicate, get_or, ap, sym, ◌∙◌, arith, append_assoc, append-nil, refl, zero, suc, take_more, replicate-append-replicate}
use Rattle.rbg_serving.specs.ListClocks.{HasTold, last_moment}

-- the clock told the next moment
pub told_next : (moments : List ℕ) (told : ℕ) (so_far : List ℕ) (moment : ℕ) →
    told < length moments →
    get_or moments told 0 ≡ moment →
    HasTold moments told so_far → HasTold moments (told + 1) (so_far ++ moment ∷ [])
told_next moments told so_far moment there is has = record {
  again = 0;
  is =
      ap (λ all. all ++ moment ∷ []) (has.is ∙ ap (λ n. take told moments ++ replicate n (last_moment moments)) none ∙ append-nil (take told moments))
      ∙ ap (λ x. take told moments ++ x ∷ []) (sym is)
      ∙ sym (take_more moments told 0 there)
      ∙ sym (append-nil (take (told + 1) moments));
  after_all = λ some. omega (arith, some);
}
  where
    by_number : (n : ℕ) → (0 < n → told ≡ length moments) → n ≡ 0
    by_number zero after = refl
    by_number (suc n) after = let all = after (omega arith) in omega (arith, all, there)

    none : has.again ≡ 0
    none = by_number has.again has.after_all

-- the clock told the last moment again
pub told_again : (moments : List ℕ) (told : ℕ) (so_far : List ℕ) (moment : ℕ) →
    told ≡ length moments →
    moment ≡ last_moment moments →
    HasTold moments told so_far → HasTold moments told (so_far ++ moment ∷ [])
told_again moments told so_far moment all is has = record {
  again = has.again + 1;
  is =
      ap (λ x. x ++ moment ∷ []) has.is
      ∙ append_assoc (take told moments) (replicate has.again (last_moment moments)) (moment ∷ [])
      ∙ ap (λ x. take told moments ++ (replicate has.again (last_moment moments) ++ x ∷ [])) is
      ∙ ap (λ x. take told moments ++ x) (replicate-append-replicate has.again 1 (last_moment moments));
  after_all = λ _. all;
}
