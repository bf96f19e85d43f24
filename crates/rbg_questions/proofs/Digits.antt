-- Numbers, digit by digit.
use Rattle.rbg_base.proofs.Common.{◌≡◌, ℕ, ◌+◌, ◌<◌, ◌≤◌, ◌^◌, ◌/◌, ◌%◌, List, [], ◌∷◌, ◌++◌, length, take, Result, Ok, Err, decimal, sym, ap, ◌∙◌, subst, append_assoc, arith}
use Rattle.std.proofs.lemmas.Fmt.{decimal_digit, decimal_step}
use Rattle.rbg_wire.specs.Writing.{Appends}
use Rattle.rbg_wire.proofs.Kept.{kept_after}

alone : (n : ℕ) → n < 10 → decimal n ≡ (48 + n % 10) ∷ []
alone n small = let same : n ≡ n % 10 = omega arith in decimal_digit n small ∙ ap (λ d. (48 + d) ∷ []) same

-- a number of one digit
pub one_digit : {E : Type 0} (old new : List ℕ) (n : ℕ) (result : Result (Unit {0}) E) → n < 10 → Appends old new ((48 + n % 10) ∷ []) result → Appends old new (decimal n) result
one_digit old new n result small one = subst (λ (text : List ℕ). Appends old new text result) (sym (alone n small)) one

pub one_written : (old new : List ℕ) (n : ℕ) → n < 10 → new ≡ old ++ (48 + n % 10) ∷ [] → new ≡ old ++ decimal n
one_written old new n small one = one ∙ ap (λ (text : List ℕ). old ++ text) (sym (alone n small))

-- the last digit after the others
pub last_digit : {E : Type 0} (old mid new : List ℕ) (n : ℕ) (result : Result (Unit {0}) E) → 10 ≤ n → n < 2 ^ 64 → mid ≡ old ++ decimal (n / 10) → Appends mid new ((48 + n % 10) ∷ []) result → Appends old new (decimal n) result
last_digit old mid new n (Ok u) many small front one = record {
  written = one.written
      ∙ (ap (λ (ds : List ℕ). ds ++ (48 + n % 10) ∷ []) front
      ∙ (append_assoc old (decimal (n / 10)) ((48 + n % 10) ∷ []) ∙ ap (λ (ds : List ℕ). old ++ ds) (sym (decimal_step n many small))));
  kept = kept_after old (decimal (n / 10)) mid new front one.kept;
}
last_digit old mid new n (Err e) many small front one = record { written = tt; kept = kept_after old (decimal (n / 10)) mid new front one.kept }
