-- Bits of numbers that are joined.
use native.Mathlib.Numerals.{unary_clauses}
use Rattle.rbg_base.proofs.Common.{◌≡◌, ℕ, zero, suc, ◌<◌, ◌⊎◌, inl, inr, refl, sym, ◌∙◌, arith, bit_or, max, bit_at, bit_at_or, bit_at-lt}

-- A bit of two numbers joined is a bit of one of them.
pub either_bit : (a b k : ℕ) → bit_at (bit_or a b) k ≡ 1 → (bit_at a k ≡ 1) ⊎ (bit_at b k ≡ 1)
either_bit a b k is =
    let most : max (bit_at a k) (bit_at b k) ≡ 1 = sym (bit_at_or a b k) ∙ is in
    by_first (bit_at a k) (bit_at b k) (bit_at-lt a k) most
  where
    by_first : (x y : ℕ) → x < 2 → max x y ≡ 1 → (x ≡ 1) ⊎ (y ≡ 1)
    by_first zero y small most = inr (simp unary_clauses at most)
    by_first (suc zero) y small most = inl refl
    by_first (suc (suc x)) y small most = absurd (omega (arith, small))

pub first_bit : (a b k : ℕ) → bit_at a k ≡ 1 → bit_at (bit_or a b) k ≡ 1
first_bit a b k is =
    let small = bit_at-lt b k in
    bit_at_or a b k ∙ grind (arith, is, small)

pub second_bit : (a b k : ℕ) → bit_at b k ≡ 1 → bit_at (bit_or a b) k ≡ 1
second_bit a b k is =
    let small = bit_at-lt a k in
    bit_at_or a b k ∙ grind (arith, is, small)
