-- Lemmas on what is heard of a seat's line.
use Rattle.rbg_base.proofs.Common.{◌≡◌, ◌≢◌, ℕ, ◌+◌, List, [], ◌∷◌, ◌++◌, Bool, true, false, ◌==◌, if◌then◌else◌, ap, ◌∙◌, refl, arith, Decides, append-nil, Decides-eqb, flat_map-append, sum_by-append, count_by}
use Rattle.rbg_serving.proofs.Common.{Heard, gave, ended, failed_to_give, failed_to_take, round_over, seat_of, bytes_of, is_end_of, is_failure_of, given_by, ends_of, failures_of, Told, has_said}

-- the test of two numbers that differ
pub different : (a b : ℕ) → a ≢ b → (a == b) ≡ false
different a b differ = by_test (a == b) (Decides-eqb a b)
  where
    by_test : (r : Bool) → Decides r (a ≡ b) → r ≡ false
    by_test true decides = absurd (differ (decides.0 refl))
    by_test false decides = refl

-- the test of a number with itself
pub itself : (a : ℕ) → (a == a) ≡ true
itself a = (Decides-eqb a a).1 refl

-- one that counts, or not
abbrev pub one_if : Bool → ℕ
one_if test = if test then 1 else 0

pub given_more : (seat : ℕ) (heard : List Heard) (one : Heard) →
    given_by seat (heard ++ one ∷ []) ≡ given_by seat heard ++ bytes_of seat one
given_more seat heard one =
    flat_map-append (bytes_of seat) heard (one ∷ []) ∙ ap (λ more. given_by seat heard ++ more) (append-nil (bytes_of seat one))

pub count_more : (test : Heard → Bool) (heard : List Heard) (one : Heard) →
    count_by test (heard ++ one ∷ []) ≡ count_by test heard + one_if (test one)
count_more test heard one =
    let whole = sum_by-append (λ x. one_if (test x)) heard (one ∷ []) in omega (arith, whole)

-- The same was heard of a seat's line.
pub record SameOf (seat : ℕ) (heard now : List Heard) : Type 0 where
  pub given : given_by seat now ≡ given_by seat heard
  pub ends : ends_of seat now ≡ ends_of seat heard
  pub failures : failures_of seat now ≡ failures_of seat heard

pub no_bytes : (seat : ℕ) (one : Heard) → seat_of one ≢ seat → bytes_of seat one ≡ []
no_bytes seat (gave other at bytes) differ = ap (λ test. if test then bytes else []) (different other seat differ)
no_bytes seat (ended other at) differ = refl
no_bytes seat (failed_to_give other at) differ = refl
no_bytes seat (failed_to_take other at) differ = refl
no_bytes seat (round_over at) differ = refl

pub no_end : (seat : ℕ) (one : Heard) → seat_of one ≢ seat → is_end_of seat one ≡ false
no_end seat (gave other at bytes) differ = refl
no_end seat (ended other at) differ = different other seat differ
no_end seat (failed_to_give other at) differ = refl
no_end seat (failed_to_take other at) differ = refl
no_end seat (round_over at) differ = refl

pub no_failure : (seat : ℕ) (one : Heard) → seat_of one ≢ seat → is_failure_of seat one ≡ false
no_failure seat (gave other at bytes) differ = refl
no_failure seat (ended other at) differ = refl
no_failure seat (failed_to_give other at) differ = different other seat differ
no_failure seat (failed_to_take other at) differ = different other seat differ
no_failure seat (round_over at) differ = refl

-- what is heard of another seat's line, or of the clock
pub of_another : (seat : ℕ) (heard : List Heard) (one : Heard) → seat_of one ≢ seat → SameOf seat heard (heard ++ one ∷ [])
of_another seat heard one differ = record {
  given =
      given_more seat heard one
      ∙ ap (λ more. given_by seat heard ++ more) (no_bytes seat one differ)
      ∙ append-nil (given_by seat heard);
  ends = omega (arith, count_more (is_end_of seat) heard one, ap one_if (no_end seat one differ));
  failures = omega (arith, count_more (is_failure_of seat) heard one, ap one_if (no_failure seat one differ));
}

-- what a line has told of which the same was heard
pub said_the_same : (seat : ℕ) (heard now : List Heard) (stalls : ℕ) (before : Told) →
    SameOf seat heard now → has_said seat now stalls before ≡ has_said seat heard stalls before
said_the_same seat heard now stalls before same = λ i. record {
  given = before.given ++ same.given i;
  ends = before.ends + same.ends i;
  taken = before.taken;
  stalls = before.stalls + stalls;
  failures = before.failures + same.failures i;
}
