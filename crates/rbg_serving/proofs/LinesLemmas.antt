-- Lemmas on lines in the middle of a call.
use Rattle.rbg_base.proofs.Common.{◌≡◌, ◌≢◌, ℕ, ◌+◌, ◌<◌, ◌≤◌, List, [], ◌∷◌, ◌++◌, length, take, set, get_or, ap, sym, ◌∙◌, refl, subst, arith, ◌⊎◌, inl, inr, length-append, append-nil, zero, suc, cases_eq, get_or-set_at}
use Rattle.std.proofs.lemmas.List.{get_or-set_other, length-set, take-append-le}
use Rattle.rbg_match.proofs.Common.{Delivery, bytes_for, delivered_from, MatchState, Steps}
use Rattle.rbg_script.specs.Events.{AbstractEvent}
use Rattle.rbg_serving.proofs.Common.{LineState, Heard, Intake, no_intake, queued_at, intake_at, Extends, ExtendAll, Told, Tells, told_at, has_taken, has_said, IsLineServed, AreServed, absent}
use Rattle.rbg_serving.proofs.HeardLemmas.{SameOf, said_the_same}

-- what each seat has after messages to the seats
pub extended : (seat : ℕ) (queued : List (List ℕ)) (outgoing : List Delivery) (index : ℕ) →
    index < length queued → Extends (queued_at queued index) (queued_at (delivered_from seat queued outgoing) index)
extended seat [] outgoing index within = ([], refl)
extended seat (bytes ∷ others) outgoing zero within = (bytes_for seat outgoing, refl)
extended seat (bytes ∷ others) outgoing (suc index) within = extended (suc seat) others outgoing index (omega (arith, within))

-- what a step of a match queues
pub step_extends : {old new : MatchState} {event : AbstractEvent} {queued now : List (List ℕ)} →
    Steps old event new queued now → ExtendAll queued now
step_extends {queued = queued} step = λ index within.
    subst (λ bytes. Extends (queued_at queued index) (queued_at bytes index)) (sym step.told)
    (extended 1 queued step.outgoing index within)

-- a line that is served goes on so, where the same was heard of it and more is queued for its seat
pub still_served : {L : Type 0} (told : L → Told → Type 0) (failure_count : L → ℕ) (seat : ℕ) (heard now : List Heard)
    (queued more : List ℕ) (before : Told) (line : L) (state : LineState) (intake : Intake) →
    SameOf seat heard now → Extends queued more →
    IsLineServed told failure_count seat heard queued before line state intake →
    IsLineServed told failure_count seat now more before line state intake
still_served told failure_count seat heard now queued more before line state intake same extends is = record {
  tells = subst (Tells told failure_count line) told_is is.tells;
  taken = is.taken;
  within = omega (arith, is.within, ap length extends.1, length-append queued extends.0);
  live = λ live. let was = is.live live in (same.ends ∙ was.0, same.failures ∙ was.1);
  over = λ over now_live. is.over over (sym same.ends ∙ now_live.0, sym same.failures ∙ now_live.1);
}
  where
    taken_is : take state.taken queued ≡ take state.taken more
    taken_is = sym (ap (take state.taken) extends.1 ∙ take-append-le state.taken queued extends.0 is.within)

    told_is : has_taken (has_said seat heard intake.stalls before) queued state.taken
        ≡ has_taken (has_said seat now intake.stalls before) more state.taken
    told_is =
        ap (λ outgoing. has_taken outgoing queued state.taken) (sym (said_the_same seat heard now intake.stalls before same))
        ∙ ap (λ taken. record (has_said seat now intake.stalls before) { taken = before.taken ++ taken }) taken_is

pub same_of : (seat : ℕ) (heard : List Heard) → SameOf seat heard heard
same_of seat heard = record { given = refl; ends = refl; failures = refl }

-- the lines, where more is queued
pub more_queued : {L : Type 0} (told : L → Told → Type 0) (failure_count : L → ℕ) (before : List Told)
    (heard : List Heard) (queued now : List (List ℕ)) (lines : List L) (states : List LineState) (intakes : List Intake) →
    length lines ≤ length queued →
    ExtendAll queued now →
    AreServed told failure_count before heard queued lines states intakes →
    AreServed told failure_count before heard now lines states intakes
more_queued told failure_count before heard queued now lines states intakes fits extends are = record {
  as_many_before = are.as_many_before;
  as_many_states = are.as_many_states;
  as_many_intakes = are.as_many_intakes;
  each = λ index line within. still_served told failure_count (index + 1) heard heard (queued_at queued index)
      (queued_at now index) (told_at before index) (get_or lines index line) (get_or states index absent) (intake_at intakes index)
      (same_of (index + 1) heard)
      (extends index (omega (arith, within, fits)))
      (are.each index line within);
}

-- the lines, where something is heard of the clock or nobody
pub heard_of_none : {L : Type 0} (told : L → Told → Type 0) (failure_count : L → ℕ) (before : List Told)
    (heard now : List Heard) (queued : List (List ℕ)) (lines : List L) (states : List LineState) (intakes : List Intake) →
    ((index : ℕ) → SameOf (index + 1) heard now) →
    AreServed told failure_count before heard queued lines states intakes →
    AreServed told failure_count before now queued lines states intakes
heard_of_none told failure_count before heard now queued lines states intakes same are = record {
  as_many_before = are.as_many_before;
  as_many_states = are.as_many_states;
  as_many_intakes = are.as_many_intakes;
  each = λ index line within. still_served told failure_count (index + 1) heard now (queued_at queued index)
      (queued_at queued index) (told_at before index) (get_or lines index line) (get_or states index absent) (intake_at intakes index)
      (same index)
      ([], sym (append-nil (queued_at queued index)))
      (are.each index line within);
}

-- the seat of another line
pub other_seat : (index other : ℕ) → other ≢ index → index + 1 ≢ other + 1
other_seat index other differ e = differ (omega (arith, e))

-- the line at a place is served
abbrev pub LineIs : {L : Type 0} → (L → Told → Type 0) → (L → ℕ) → (before : List Told) → List Heard →
    (queued : List (List ℕ)) → (index : ℕ) → L → LineState → Intake → Type 0
LineIs told failure_count before heard queued index line state intake =
    IsLineServed told failure_count (index + 1) heard (queued_at queued index) (told_at before index) line state intake

-- the lines, where one of them was used, and something may have been heard of it
pub one_used : {L : Type 0} (told : L → Told → Type 0) (failure_count : L → ℕ) (before : List Told)
    (heard now : List Heard) (queued : List (List ℕ)) (lines : List L) (states : List LineState) (intakes : List Intake)
    (index : ℕ) (line : L) (one : LineState) (intake : Intake) →
    index < length lines →
    ((other : ℕ) → other ≢ index → SameOf (other + 1) heard now) →
    AreServed told failure_count before heard queued lines states intakes →
    IsLineServed told failure_count (index + 1) now (queued_at queued index) (told_at before index) line one intake →
    AreServed told failure_count before now queued (set lines index line) (set states index one) (set intakes index intake)
one_used {L} told failure_count before heard now queued lines states intakes index line one intake there same are is = record {
  as_many_before = are.as_many_before ∙ sym (length-set lines index line);
  as_many_states = length-set states index one ∙ are.as_many_states ∙ sym (length-set lines index line);
  as_many_intakes = length-set intakes index intake ∙ are.as_many_intakes ∙ sym (length-set lines index line);
  each = λ other d within. at other d (omega (arith, within, length-set lines index line)) (cases_eq other index);
}
  where
    swap_all : (other : ℕ) (used used' : L) (come come' : LineState) (took took' : Intake) →
        used ≡ used' → come ≡ come' → took ≡ took' →
        LineIs told failure_count before now queued other used' come' took' →
        LineIs told failure_count before now queued other used come took
    swap_all other used used' come come' took took' used_is come_is took_is holds =
        subst (λ x. LineIs told failure_count before now queued other x come took) (sym used_is)
        (subst (λ x. LineIs told failure_count before now queued other used' x took) (sym come_is)
        (subst (λ x. LineIs told failure_count before now queued other used' come' x) (sym took_is) holds))

    at : (other : ℕ) (d : L) → other < length lines → (other ≡ index) ⊎ (other ≢ index) →
        LineIs told failure_count before now queued other (get_or (set lines index line) other d)
        (get_or (set states index one) other absent)
        (intake_at (set intakes index intake) other)
    at other d within (inl e) =
        swap_all other (get_or (set lines index line) other d) line
        (get_or (set states index one) other absent) one
        (intake_at (set intakes index intake) other) intake
        (get_or-set_at lines index other line d e there)
        (get_or-set_at states index other one absent e (omega (arith, there, are.as_many_states)))
        (get_or-set_at intakes index other intake no_intake e (omega (arith, there, are.as_many_intakes)))
        (subst (λ place. LineIs told failure_count before now queued place line one intake) (sym e) is)
    at other d within (inr differ) =
        swap_all other (get_or (set lines index line) other d) (get_or lines other d)
        (get_or (set states index one) other absent) (get_or states other absent)
        (intake_at (set intakes index intake) other) (intake_at intakes other)
        (get_or-set_other lines index other line d differ)
        (get_or-set_other states index other one absent differ)
        (get_or-set_other intakes index other intake no_intake differ)
        (still_served told failure_count (other + 1) heard now (queued_at queued other) (queued_at queued other)
        (told_at before other) (get_or lines other d) (get_or states other absent) (intake_at intakes other)
        (same other differ)
        ([], sym (append-nil (queued_at queued other)))
        (are.each other d within))

-- what stands at a place of a list
pub item_at : {L : Type 0} (items : List L) (index : ℕ) → index < length items → L
item_at [] index within = absurd (omega (arith, within))
item_at (item ∷ items) zero within = item
item_at (item ∷ items) (suc index) within = item_at items index (omega (arith, within))
