-- What fits 64 bits with a sign.
use Rattle.rbg_base.proofs.Common.{◌≡◌, ℕ, zero, suc, ◌<◌, ◌^◌, ◌-◌, ℤ, pos, negsuc, Option, Some, None, refl, ap, ◌∙◌, arith, true, false, nat_le, SomeIff, Result, Ok, Err, CanDivide, w64, FitsSigned, int_div, nat_tests}
use Rattle.std.specs.Result.{OkIff, result_ok}
use Rattle.rbg_rules.specs.Meaning.{if_fits, divided}

within : (n : ℕ) → n < 2 ^ 63 → nat_le n (2 ^ 63 - 1) ≡ true
within n h = grind (arith, nat_tests)

beyond : (n : ℕ) → (n < 2 ^ 63 → ⊥) → nat_le n (2 ^ 63 - 1) ≡ false
beyond n h = grind (arith, nat_tests)

pub by_fits : (r : Option ℤ) (z : ℤ) → SomeIff r (FitsSigned w64 z) z → r ≡ if_fits z
by_fits (Some x) (pos n) h = let e = within n h.0.sfits in rw e (ap Some h.1)
by_fits (Some x) (negsuc n) h = let e = within n h.0.sfits in rw e (ap Some h.1)
by_fits None (pos n) h = let e = beyond n (λ p. h (record { sfits = p })) in rw e
by_fits None (negsuc n) h = let e = beyond n (λ p. h (record { sfits = p })) in rw e

-- the same of a conversion that fails if the number does not fit
pub by_conversion : {E : Type 0} (r : Result ℤ E) (o : Option ℤ) (z : ℤ) → OkIff r (FitsSigned w64 z) z → o ≡ result_ok r → o ≡ if_fits z
by_conversion (Ok x) o z h e = e ∙ by_fits (Some x) z h
by_conversion (Err x) o z h e = e ∙ by_fits None z h

pub fits-of_below : (n : ℕ) → n < 2 ^ 63 → Some (pos n) ≡ if_fits (pos n)
fits-of_below n h = let e = within n h in rw e

pub by_can_divide : (r : Option ℤ) (x y : ℤ) → FitsSigned w64 y → SomeIff r (CanDivide w64 x y) (int_div x y) → r ≡ divided x y
by_can_divide (Some q) x (pos zero) fits h = let no = h.0.0 in absurd (omega arith)
by_can_divide None x (pos zero) fits h = refl
by_can_divide (Some q) x (pos (suc n)) fits h = by_fits (Some q) (int_div x (pos (suc n))) (h.0.1, h.1)
by_can_divide None x (pos (suc n)) fits h = by_fits None (int_div x (pos (suc n))) (λ f. h (omega arith, f))
by_can_divide (Some q) x (negsuc n) fits h = by_fits (Some q) (int_div x (negsuc n)) (h.0.1, h.1)
by_can_divide None x (negsuc n) fits h = let small : n < 2 ^ 63 = fits.sfits in by_fits None (int_div x (negsuc n)) (λ f. h (omega arith, f))
