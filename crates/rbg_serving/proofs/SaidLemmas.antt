-- Lemmas on what a line has told of which one more thing was heard.
use Rattle.std.proofs.Common.{◌≡◌, ℕ, ◌+◌, List, [], ◌∷◌, ◌++◌, take, if◌then◌else◌, ap, sym, ◌∙◌, arith, append_assoc, append-nil}
use Rattle.rbg_serving.proofs.Common.{with_failure, Heard, gave, ended, failed_to_give, failed_to_take, bytes_of, is_end_of, is_failure_of, given_by, ends_of, failures_of, Told, has_taken, has_said}
use Rattle.rbg_serving.proofs.HeardLemmas.{given_more, count_more, itself, one_if}

-- what one thing that is heard adds to what the line has told
abbrev pub says : (seat : ℕ) → Heard → Told → Told
says seat one so_far = record {
  given = so_far.given ++ bytes_of seat one;
  ends = so_far.ends + one_if (is_end_of seat one);
  taken = so_far.taken;
  stalls = so_far.stalls;
  failures = so_far.failures + one_if (is_failure_of seat one);
}

pub said_one : (seat : ℕ) (heard : List Heard) (one : Heard) (stalls : ℕ) (before : Told) (queued : List ℕ) (taken : ℕ) →
    has_taken (has_said seat (heard ++ one ∷ []) stalls before) queued taken
    ≡ says seat one (has_taken (has_said seat heard stalls before) queued taken)
said_one seat heard one stalls before queued taken = λ i. record {
  given = given i;
  ends = ends i;
  taken = before.taken ++ take taken queued;
  stalls = before.stalls + stalls;
  failures = failures i;
}
  where
    given : before.given ++ given_by seat (heard ++ one ∷ []) ≡ (before.given ++ given_by seat heard) ++ bytes_of seat one
    given = ap (λ bytes. before.given ++ bytes) (given_more seat heard one) ∙ sym (append_assoc before.given (given_by seat heard) (bytes_of seat one))

    ends : before.ends + ends_of seat (heard ++ one ∷ []) ≡ (before.ends + ends_of seat heard) + one_if (is_end_of seat one)
    ends = omega (arith, count_more (is_end_of seat) heard one)

    failures : before.failures + failures_of seat (heard ++ one ∷ []) ≡ (before.failures + failures_of seat heard) + one_if (is_failure_of seat one)
    failures = omega (arith, count_more (is_failure_of seat) heard one)

plus_nothing : (n : ℕ) → n + 0 ≡ n
plus_nothing n = omega arith

-- two that told the same in each of these
told_alike : (so_far : Told) {given given' : List ℕ} {ends ends' failures failures' : ℕ} → given ≡ given' → ends ≡ ends' → failures ≡ failures' →
    record so_far { given = given; ends = ends; failures = failures } ≡ record so_far { given = given'; ends = ends'; failures = failures' }
told_alike so_far given ends failures = λ i. record so_far { given = given i; ends = ends i; failures = failures i }

pub says_gave : (seat at : ℕ) (bytes : List ℕ) (so_far : Told) → says seat (gave seat at bytes) so_far ≡ record so_far { given = so_far.given ++ bytes }
says_gave seat at bytes so_far =
    told_alike so_far (ap (λ test. so_far.given ++ (if test then bytes else [])) (itself seat)) (plus_nothing so_far.ends) (plus_nothing so_far.failures)

pub says_ended : (seat at : ℕ) (so_far : Told) → says seat (ended seat at) so_far ≡ record so_far { ends = so_far.ends + 1 }
says_ended seat at so_far =
    told_alike so_far (append-nil so_far.given) (ap (λ test. so_far.ends + one_if test) (itself seat)) (plus_nothing so_far.failures)

pub says_failed_to_give : (seat at : ℕ) (so_far : Told) → says seat (failed_to_give seat at) so_far ≡ with_failure so_far
says_failed_to_give seat at so_far =
    told_alike so_far (append-nil so_far.given) (plus_nothing so_far.ends) (ap (λ test. so_far.failures + one_if test) (itself seat))

pub says_failed_to_take : (seat at : ℕ) (so_far : Told) → says seat (failed_to_take seat at) so_far ≡ with_failure so_far
says_failed_to_take = says_failed_to_give
