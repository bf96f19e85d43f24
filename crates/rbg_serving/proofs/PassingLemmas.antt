-- Lemmas on bytes that are passed on.
use Rattle.rbg_base.proofs.Common.{◌≡◌, ◌≢◌, ◌⊎◌, inl, inr, ◌<◌, ◌≤◌, ◌==◌, zero, suc, length, ℕ, List, [], ◌∷◌, ◌+◌, ◌-◌, ◌++◌, take, drop, set, get_or, Bool, true, false, if◌then◌else◌, ap, sym, ◌∙◌, refl, subst, arith, length-drop, append_assoc, append-nil, cases_eq, get_or-set_at, sum_by-set}
use Rattle.std.proofs.Math.Seq.{take-add}
use Rattle.std.proofs.lemmas.List.{take_all, get_or-set_same, get_or-set_other}
use Rattle.rbg_serving.proofs.Common.{Took, LineState, after_put, stalls_of, with_failure, Heard, failed_to_take, is_failure_of, IsLive, Intake, no_intake, intake_at, queued_at, ComeBefore, Told, Tells, told_at, has_taken, has_said, stall_of, passed_on, absent, IsLineServed, AreServed, AreServedFrom, ArePassed, live_lines}
use Rattle.rbg_serving.proofs.HeardLemmas.{of_another, count_more, different, itself, one_if}
use Rattle.rbg_serving.proofs.LinesLemmas.{item_at, one_used, same_of, other_seat}
use Rattle.rbg_serving.proofs.SaidLemmas.{said_one, says_failed_to_take}

-- all that is left from there on
pub rest_is : (bytes : List ℕ) (n : ℕ) → take (length bytes - n) (drop n bytes) ≡ drop n bytes
rest_is bytes n = take_all (length bytes - n) (drop n bytes) (omega (arith, length-drop n bytes))

-- a line that took more of the bytes
pub took_more : (before : Told) (bytes : List ℕ) (n more : ℕ) →
    more ≢ 0 →
    after_put (has_taken before bytes n) (Took more) (take (length bytes - n) (drop n bytes))
    ≡ has_taken before bytes (n + more)
took_more before bytes n more some = λ i. record {
  given = before.given;
  ends = before.ends;
  taken = taken i;
  stalls = stalls more some i;
  failures = before.failures;
}
  where
    taken : (before.taken ++ take n bytes) ++ take more (take (length bytes - n) (drop n bytes)) ≡ before.taken ++ take (n + more) bytes
    taken =
        ap (λ rest. (before.taken ++ take n bytes) ++ take more rest) (rest_is bytes n)
        ∙ append_assoc before.taken (take n bytes) (take more (drop n bytes))
        ∙ ap (λ taken. before.taken ++ taken) (sym (take-add n more bytes))

    plus_nothing : (n : ℕ) → n + 0 ≡ n
    plus_nothing n = omega arith

    stalls : (more : ℕ) → more ≢ 0 → before.stalls + stalls_of more (take (length bytes - n) (drop n bytes)) ≡ before.stalls
    stalls zero some = absurd (some refl)
    stalls (suc more) some = plus_nothing before.stalls

-- a live line to which all was offered
pub passed_is : (before : Told) (bytes : List ℕ) (state : LineState) (stalls : ℕ) →
    state.live ≡ true →
    stalls ≡ stall_of bytes state →
    record (has_taken before bytes state.taken) { stalls = before.stalls + stalls } ≡ passed_on before bytes state
passed_is before bytes state stalls live is =
    ap (λ n. record (has_taken before bytes state.taken) { stalls = before.stalls + n }) is
    ∙ ap (λ alive. if alive
    then record (has_taken before bytes state.taken) { stalls = before.stalls + stall_of bytes state }
    else with_failure (has_taken before bytes state.taken)) (sym live)

-- a line that has all
pub has_all_of : (before : Told) (bytes : List ℕ) (state : LineState) →
    state.live ≡ true →
    state.taken ≡ length bytes →
    has_taken before bytes state.taken ≡ passed_on before bytes state
has_all_of before bytes state live all =
    (λ i. record (has_taken before bytes state.taken) { stalls = sym (plus_nothing before.stalls) i })
    ∙ passed_is before bytes state 0 live
    (sym (ap (λ test. if test then 0 else 1) (ap (λ n. n == length bytes) all ∙ itself (length bytes))))
  where
    plus_nothing : (n : ℕ) → n + 0 ≡ n
    plus_nothing n = omega arith

-- a line that took none of the rest
pub took_none : (before : Told) (bytes : List ℕ) (state : LineState) →
    state.live ≡ true →
    state.taken < length bytes →
    after_put (has_taken before bytes state.taken) (Took 0) (take (length bytes - state.taken) (drop state.taken bytes))
    ≡ passed_on before bytes state
took_none before bytes state live left =
    (λ i. record (has_taken before bytes state.taken) { taken = taken i; stalls = before.stalls + stall i })
    ∙ passed_is before bytes state 1 live
    (sym (ap (λ test. if test then 0 else 1) (different state.taken (length bytes) (λ e. omega (arith, e, left)))))
  where
    taken : (before.taken ++ take state.taken bytes) ++ take 0 (take (length bytes - state.taken) (drop state.taken bytes))
        ≡ before.taken ++ take state.taken bytes
    taken = append-nil (before.taken ++ take state.taken bytes)

    one_stall : (rest : List ℕ) → 0 < length rest → stalls_of 0 rest ≡ 1
    one_stall [] some = absurd (omega (arith, some))
    one_stall (byte ∷ rest) some = refl

    stall : stalls_of 0 (take (length bytes - state.taken) (drop state.taken bytes)) ≡ 1
    stall = one_stall (take (length bytes - state.taken) (drop state.taken bytes))
        (omega (arith, left, ap length (rest_is bytes state.taken), length-drop state.taken bytes))

-- What `pass_to` says of a line.
abbrev pub PassesTo : {L : Type 0} → (L → Told → Type 0) → (L → ℕ) → (bytes : List ℕ) → (line used : L) → (state come : LineState) → Type 0
PassesTo told failure_count bytes line used state come =
    (before : Told) →
    state.taken ≤ length bytes →
    Tells told failure_count line (has_taken before bytes state.taken) →
    Tells told failure_count used (passed_on before bytes come)

-- the intake of a line to which all was offered
abbrev pub passed_intake : (bytes : List ℕ) → Intake → LineState → Intake
passed_intake bytes intake state = record { taken = state.taken; stalls = intake.stalls + stall_of bytes state }

-- what grows with the intakes, where one of them has grown
grown_at : (measure : Intake → ℕ) (since intakes : List Intake) (index : ℕ) (intake : Intake) →
    index < length intakes →
    ((other : ℕ) → measure (intake_at since other) ≤ measure (intake_at intakes other)) →
    measure (intake_at intakes index) ≤ measure intake →
    (other : ℕ) → measure (intake_at since other) ≤ measure (intake_at (set intakes index intake) other)
grown_at measure since intakes index intake there before more other = at (cases_eq other index)
  where
    at : (other ≡ index) ⊎ (other ≢ index) → measure (intake_at since other) ≤ measure (intake_at (set intakes index intake) other)
    at (inl e) =
        omega (
          arith,
          before other,
          more,
          ap (λ n. measure (intake_at intakes n)) e,
          ap measure (get_or-set_at intakes index other intake no_intake e there),
        )
    at (inr differ) = omega (arith, before other, ap measure (get_or-set_other intakes index other intake no_intake differ))

-- intakes, where one of them has grown
pub later_at : (since intakes : List Intake) (index : ℕ) (intake : Intake) →
    index < length intakes →
    ComeBefore since intakes →
    (intake_at intakes index).taken ≤ intake.taken →
    (intake_at intakes index).stalls ≤ intake.stalls →
    ComeBefore since (set intakes index intake)
later_at since intakes index intake there before taken stalls = record {
  taken = grown_at (λ one. one.taken) since intakes index intake there before.taken taken;
  stalls = grown_at (λ one. one.stalls) since intakes index intake there before.stalls stalls;
}

-- what is below the next number and another
below : (a b : ℕ) → a < b + 1 → a ≢ b → a < b
below zero zero least differ = absurd (differ refl)
below zero (suc b) least differ = omega arith
below (suc a) zero least differ = absurd (omega (arith, least))
below (suc a) (suc b) least differ =
    let less = below a b (omega (arith, least)) (λ e. differ (ap suc e)) in omega (arith, less)

-- The next line was passed bytes.
module _ {L : Type 0} (told : L → Told → Type 0) (failure_count : L → ℕ) (before : List Told) (heard : List Heard)
    (queued : List (List ℕ)) (lines : List L) (states : List LineState) (since : List Intake) (index : ℕ) (old line : L)
    (one : LineState) (bytes : List ℕ) (there : index < length lines) (is : bytes ≡ queued_at queued index)
    (was_live : (get_or states index absent).live ≡ true)
    (passes : PassesTo told failure_count bytes (get_or lines index old) line (get_or states index absent) one)
    (fits : (get_or states index absent).taken ≤ length bytes → one.taken ≤ length bytes)
    (more : (get_or states index absent).taken ≤ one.taken)
    (passed : ArePassed told failure_count before heard queued lines states since index) where
  abbrev was : IsLineServed told failure_count (index + 1) heard (queued_at queued index) (told_at before index) (get_or lines index old) (get_or states index absent) (intake_at passed.from.intakes index)
  was = passed.from.served.each index old there

  abbrev outgoing : Told
  outgoing = has_said (index + 1) heard (intake_at passed.from.intakes index).stalls (told_at before index)

  abbrev within : (get_or states index absent).taken ≤ length bytes
  within = subst (λ all. (get_or states index absent).taken ≤ length all) (sym is) was.within

  true_or_false : {P : Type 0} → true ≡ false → P
  true_or_false e = cc

  -- it took all and is live
  pub one_passed :
      one.live ≡ true →
      ArePassed told failure_count before heard queued (set lines index line) (set states index one) since (index + 1)
  one_passed live = record {
    from = record {
      intakes = set intakes index intake;
      later = later_at since intakes index intake in_intakes passed.from.later
          (subst (λ n. n ≤ one.taken) (sym was.taken) more)
          (omega arith);
      served = one_used told failure_count before heard heard queued lines states intakes index line one intake there
          (λ other _. same_of (other + 1) heard)
          are
          record {
            tells = subst (λ all. Tells told failure_count line (has_taken (has_said (index + 1) heard intake.stalls (told_at before index)) all one.taken)) is
                (subst (Tells told failure_count line)
                (sym (passed_is outgoing bytes one (stall_of bytes one) live refl) ∙ stalls_joined)
                (passes outgoing within
                (subst (λ all. Tells told failure_count (get_or lines index old)
                (has_taken outgoing all (get_or states index absent).taken)) (sym is) was.tells)));
            taken = refl;
            within = subst (λ all. one.taken ≤ length all) is (fits within);
            live = λ _. was.live was_live;
            over = λ over. true_or_false (sym live ∙ over);
          };
    };
    offered = λ other within live. offered_at other within live (cases_eq other index);
  }
    where
      intakes : List Intake
      intakes = passed.from.intakes

      intake : Intake
      intake = passed_intake bytes (intake_at passed.from.intakes index) one

      are : AreServed told failure_count before heard queued lines states passed.from.intakes
      are = passed.from.served

      in_intakes : index < length passed.from.intakes
      in_intakes = omega (arith, there, passed.from.served.as_many_intakes)

      plus_assoc : (a b c : ℕ) → (a + b) + c ≡ a + (b + c)
      plus_assoc a b c = omega arith

      stalls_joined : record (has_taken outgoing bytes one.taken) { stalls = outgoing.stalls + stall_of bytes one }
          ≡ has_taken (has_said (index + 1) heard intake.stalls (told_at before index)) bytes one.taken
      stalls_joined = λ i. record (has_taken outgoing bytes one.taken) {
        stalls = plus_assoc (told_at before index).stalls (intake_at passed.from.intakes index).stalls (stall_of bytes one) i;
      }

      all_or_stall : (one.taken ≡ length bytes) ⊎ (one.taken ≢ length bytes) →
          (one.taken ≡ length bytes) ⊎ ((intake_at since index).stalls < intake.stalls)
      all_or_stall (inl all) = inl all
      all_or_stall (inr rest) = inr (omega (
        arith,
        passed.from.later.stalls index,
        ap {B = ℕ} (λ test. if test then 0 else 1) (different one.taken (length bytes) rest),
      ))

      here : (intake.taken ≡ length (queued_at queued index)) ⊎ ((intake_at since index).stalls < intake.stalls)
      here = subst (λ all. (intake.taken ≡ length all) ⊎ ((intake_at since index).stalls < intake.stalls)) is
          (all_or_stall (cases_eq one.taken (length bytes)))

      Offered : (place : ℕ) → Intake → Type 0
      Offered place now = (now.taken ≡ length (queued_at queued place)) ⊎ ((intake_at since place).stalls < now.stalls)

      offered_at : (other : ℕ) → other < index + 1 → IsLive (other + 1) heard → (other ≡ index) ⊎ (other ≢ index) →
          Offered other (intake_at (set passed.from.intakes index intake) other)
      offered_at other within live (inl e) =
          subst (Offered other) (sym (get_or-set_at passed.from.intakes index other intake no_intake e in_intakes))
          (subst (λ place. Offered place intake) (sym e) here)
      offered_at other within live (inr differ) =
          subst (Offered other) (sym (get_or-set_other passed.from.intakes index other intake no_intake differ))
          (passed.offered other (below other index within differ) live)

  -- it failed
  pub one_failed :
      one.live ≡ false →
      IsLive (index + 1) heard
      × ((at : ℕ) →
      AreServedFrom told failure_count before (heard ++ failed_to_take (index + 1) at ∷ []) queued (set lines index line) (set states index one) since)
  one_failed live = (
    was.live was_live,
    λ at. record {
      intakes = set passed.from.intakes index intake;
      later = later_at since passed.from.intakes index intake (omega (arith, there, passed.from.served.as_many_intakes)) passed.from.later
          (subst (λ n. n ≤ one.taken) (sym was.taken) more)
          (omega arith);
      served =
          one_used told failure_count before heard (heard ++ failed_to_take (index + 1) at ∷ []) queued lines states passed.from.intakes index line one intake there
          (λ other differ. of_another (other + 1) heard (failed_to_take (index + 1) at) (other_seat index other differ))
          passed.from.served
          record {
            tells = subst (λ all. Tells told failure_count line (has_taken (has_said (index + 1) (heard ++ failed_to_take (index + 1) at ∷ []) intake.stalls (told_at before index)) all one.taken)) is
                (subst (Tells told failure_count line)
                (ap (λ alive. if alive
                then record (has_taken outgoing bytes one.taken) { stalls = outgoing.stalls + stall_of bytes one }
                else with_failure (has_taken outgoing bytes one.taken)) live
                ∙ sym (says_failed_to_take (index + 1) at (has_taken outgoing bytes one.taken))
                ∙ sym (said_one (index + 1) heard (failed_to_take (index + 1) at) intake.stalls (told_at before index) bytes one.taken))
                (passes outgoing within
                (subst (λ all. Tells told failure_count (get_or lines index old)
                (has_taken outgoing all (get_or states index absent).taken)) (sym is) was.tells)));
            taken = refl;
            within = subst (λ all. one.taken ≤ length all) is (fits within);
            live = λ alive. true_or_false (sym alive ∙ live);
            over = λ _ still. one_too_many at still;
          };
    },
  )
    where
      intake : Intake
      intake = record { taken = one.taken; stalls = (intake_at passed.from.intakes index).stalls }

      one_too_many : (at : ℕ) → IsLive (index + 1) (heard ++ failed_to_take (index + 1) at ∷ []) → ⊥
      one_too_many at still =
          omega (arith, still.1, count_more (is_failure_of (index + 1)) heard (failed_to_take (index + 1) at), ap one_if (itself (index + 1)))

-- the next line is not live
pub one_left : {L : Type 0} (told : L → Told → Type 0) (failure_count : L → ℕ) (before : List Told)
    (heard : List Heard) (queued : List (List ℕ)) (lines : List L) (states : List LineState) (since : List Intake)
    (index : ℕ) →
    index < length lines →
    (get_or states index absent).live ≡ false →
    ArePassed told failure_count before heard queued lines states since index →
    ArePassed told failure_count before heard queued lines states since (index + 1)
one_left told failure_count before heard queued lines states since index there over passed = record {
  from = passed.from;
  offered = λ other within live. offered_at other within live (cases_eq other index);
}
  where
    offered_at : (other : ℕ) → other < index + 1 → IsLive (other + 1) heard → (other ≡ index) ⊎ (other ≢ index) →
        ((intake_at passed.from.intakes other).taken ≡ length (queued_at queued other))
        ⊎ ((intake_at since other).stalls < (intake_at passed.from.intakes other).stalls)
    offered_at other within live (inl e) =
        absurd ((passed.from.served.each index (item_at lines index there) there).over over (subst (λ place. IsLive (place + 1) heard) e live))
    offered_at other within live (inr differ) = passed.offered other (below other index within differ) live

-- nothing was passed yet
pub none_passed : {L : Type 0} (told : L → Told → Type 0) (failure_count : L → ℕ) (before : List Told)
    (heard : List Heard) (queued : List (List ℕ)) (lines : List L) (states : List LineState) (intakes : List Intake) →
    AreServed told failure_count before heard queued lines states intakes →
    ArePassed told failure_count before heard queued lines states intakes 0
none_passed told failure_count before heard queued lines states intakes are = record {
  from = record {
    intakes = intakes;
    later = record { taken = λ index. omega arith; stalls = λ index. omega arith };
    served = are;
  };
  offered = λ index none live. absurd (omega (arith, none));
}

-- how many lines are live, where one was and now is or isn't
pub live_lines_after : (states : List LineState) (index : ℕ) (one : LineState) →
    index < length states →
    (get_or states index absent).live ≡ true →
    live_lines (set states index one) + 1 ≡ live_lines states + one_if one.live
live_lines_after states index one there live =
    let was = sum_by-set (λ (x : LineState). one_if x.live) states index one absent there in
    omega (arith, was, ap one_if live)

-- the same many are live
pub same_live : (states now : List LineState) (index : ℕ) (one : LineState) (n : ℕ) →
    index < length states →
    (get_or states index absent).live ≡ true →
    one.live ≡ true →
    now ≡ set states index one →
    live_lines states ≡ n →
    live_lines now ≡ n
same_live states now index one n there was_live live is count =
    let after = live_lines_after states index one there was_live in
    ap live_lines is ∙ omega (arith, after, ap one_if live, count)

-- the states of a line that was set
pub live_at : (states : List LineState) (index : ℕ) (one : LineState) (alive : Bool) →
    index < length states →
    (get_or (set states index one) index absent).live ≡ alive →
    one.live ≡ alive
live_at states index one alive there is =
    sym (ap (λ (x : LineState). x.live) (get_or-set_same states index one absent there)) ∙ is
