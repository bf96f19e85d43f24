-- Lemmas on what is heard when a line is polled.
use Rattle.std.proofs.Common.{◌≡◌, ◌≢◌, ℕ, ◌+◌, ◌<◌, ◌≤◌, List, [], ◌∷◌, ◌++◌, length, map, take, set, get_or, Bool, true, false, not, ap, sym, ◌∙◌, refl, subst, arith, append-nil, zero, suc}
use Rattle.rbg_script.specs.Events.{AbstractEvent}
use Rattle.rbg_serving.proofs.Common.{Polled, LineState, after_poll, Heard, gave, ended, failed_to_give, seat_of, heard_at, event_of, is_end_of, is_failure_of, is_failed_put, is_round_over, IsLive, IsTimed, heard_alone, of_line, Behaviour, Intake, no_intake, intake_at, queued_at, Told, Tells, told_at, Start, HeardLast, Passed, has_taken, has_said, IsLineServed, AreServed, absent, heard_by_poll, is_last}
use Rattle.rbg_serving.specs.declared.answer.Polled.TheVariants.{Got, Nothing, Ended, Failed}
use Rattle.rbg_serving.proofs.InCallLemmas.{asked_alone}
use Rattle.rbg_serving.proofs.HeardLemmas.{SameOf, of_another, count_more, itself, one_if}
use Rattle.rbg_serving.proofs.SaidLemmas.{said_one, says_gave, says_ended, says_failed_to_give}
use Rattle.rbg_serving.proofs.LinesLemmas.{one_used, same_of, other_seat}

-- what a line has told after a poll
pub told_by_poll : (seat at : ℕ) (polled : Polled) (buffer : List ℕ) (heard : List Heard) (stalls : ℕ) (before : Told) (queued : List ℕ) (taken : ℕ) →
    after_poll (has_taken (has_said seat heard stalls before) queued taken) polled buffer
    ≡ has_taken (has_said seat (heard ++ heard_by_poll seat at polled buffer) stalls before) queued taken
told_by_poll seat at (Got n) buffer heard stalls before queued taken =
    sym (said_one seat heard (gave seat at (take n buffer)) stalls before queued taken
    ∙ says_gave seat at (take n buffer) (has_taken (has_said seat heard stalls before) queued taken))
told_by_poll seat at Nothing buffer heard stalls before queued taken =
    ap (λ whole. has_taken (has_said seat whole stalls before) queued taken) (sym (append-nil heard))
told_by_poll seat at Ended buffer heard stalls before queued taken =
    sym (said_one seat heard (ended seat at) stalls before queued taken
    ∙ says_ended seat at (has_taken (has_said seat heard stalls before) queued taken))
told_by_poll seat at Failed buffer heard stalls before queued taken =
    sym (said_one seat heard (failed_to_give seat at) stalls before queued taken
    ∙ says_failed_to_give seat at (has_taken (has_said seat heard stalls before) queued taken))

-- a line is live after a poll, unless it was its last
pub live_after_poll : (seat at : ℕ) (polled : Polled) (buffer : List ℕ) (heard : List Heard) →
    IsLive seat heard → is_last polled ≡ false → IsLive seat (heard ++ heard_by_poll seat at polled buffer)
live_after_poll seat at (Got n) buffer heard live alive = (
  omega (arith, live.0, count_more (is_end_of seat) heard (gave seat at (take n buffer))),
  omega (arith, live.1, count_more (is_failure_of seat) heard (gave seat at (take n buffer))),
)
live_after_poll seat at Nothing buffer heard live alive = subst (IsLive seat) (sym (append-nil heard)) live
live_after_poll seat at Ended buffer heard live alive = cc
live_after_poll seat at Failed buffer heard live alive = cc

pub over_after_poll : (seat at : ℕ) (polled : Polled) (buffer : List ℕ) (heard : List Heard) →
    is_last polled ≡ true → ¬ IsLive seat (heard ++ heard_by_poll seat at polled buffer)
over_after_poll seat at (Got n) buffer heard last live = cc
over_after_poll seat at Nothing buffer heard last live = cc
over_after_poll seat at Ended buffer heard last live =
    omega (arith, live.0, count_more (is_end_of seat) heard (ended seat at), ap one_if (itself seat))
over_after_poll seat at Failed buffer heard last live =
    omega (arith, live.1, count_more (is_failure_of seat) heard (failed_to_give seat at), ap one_if (itself seat))

-- nothing was heard of another line
others_same : (seat at : ℕ) (polled : Polled) (buffer : List ℕ) (heard : List Heard) (other : ℕ) → seat ≢ other →
    SameOf other heard (heard ++ heard_by_poll seat at polled buffer)
others_same seat at (Got n) buffer heard other differ = of_another other heard (gave seat at (take n buffer)) differ
others_same seat at Nothing buffer heard other differ = subst (SameOf other heard) (sym (append-nil heard)) (same_of other heard)
others_same seat at Ended buffer heard other differ = of_another other heard (ended seat at) differ
others_same seat at Failed buffer heard other differ = of_another other heard (failed_to_give seat at) differ

-- a list in which an item is set to what it was
set_same : {A : Type 0} (items : List A) (index : ℕ) (default : A) → set items index (get_or items index default) ≡ items
set_same [] index default = refl
set_same (item ∷ items) zero default = refl
set_same (item ∷ items) (suc index) default = ap (λ rest. item ∷ rest) (set_same items index default)

-- the lines after one of them was polled
pub one_polled : {L : Type 0} (told : L → Told → Type 0) (failure_count : L → ℕ) (before : List Told)
    (heard : List Heard) (queued : List (List ℕ)) (lines : List L) (states : List LineState) (intakes : List Intake)
    (index at : ℕ) (old line : L) (one : LineState) (polled : Polled) (buffer : List ℕ) →
    index < length lines →
    AreServed told failure_count before heard queued lines states intakes →
    ((so_far : Told) → Tells told failure_count (get_or lines index old) so_far → Tells told failure_count line (after_poll so_far polled buffer)) →
    (get_or states index absent).live ≡ true →
    one.taken ≡ (get_or states index absent).taken →
    one.live ≡ not (is_last polled) →
    IsLive (index + 1) heard
    × AreServed told failure_count before (heard ++ heard_by_poll (index + 1) at polled buffer) queued (set lines index line) (set states index one) intakes
one_polled told failure_count before heard queued lines states intakes index at old line one polled buffer there are tells was_live taken live =
    let bytes = queued_at queued index in
    let come = get_or states index absent in
    let outgoing = has_said (index + 1) heard (intake_at intakes index).stalls (told_at before index) in (
      was.live was_live,
      subst (λ same. AreServed told failure_count before (heard ++ heard_by_poll (index + 1) at polled buffer) queued (set lines index line) (set states index one) same)
          (set_same intakes index no_intake)
          (one_used told failure_count before heard (heard ++ heard_by_poll (index + 1) at polled buffer) queued lines states intakes index line one (intake_at intakes index) there
          (λ other differ. others_same (index + 1) at polled buffer heard (other + 1) (other_seat index other differ))
          are
          record {
            tells = subst (Tells told failure_count line) told_is (tells (has_taken outgoing bytes come.taken) was.tells);
            taken = was.taken ∙ sym taken;
            within = subst (λ n. n ≤ length bytes) (sym taken) was.within;
            live = λ alive. live_after_poll (index + 1) at polled buffer heard (was.live was_live) (not_true (is_last polled) (sym live ∙ alive));
            over = λ last. over_after_poll (index + 1) at polled buffer heard (not_false (is_last polled) (sym live ∙ last));
          }),
    )
  where
    was : IsLineServed told failure_count (index + 1) heard (queued_at queued index) (told_at before index) (get_or lines index old) (get_or states index absent) (intake_at intakes index)
    was = are.each index old there

    told_is : after_poll (has_taken (has_said (index + 1) heard (intake_at intakes index).stalls (told_at before index)) (queued_at queued index) (get_or states index absent).taken) polled buffer
        ≡ has_taken (has_said (index + 1) (heard ++ heard_by_poll (index + 1) at polled buffer) (intake_at intakes index).stalls (told_at before index)) (queued_at queued index) one.taken
    told_is =
        told_by_poll (index + 1) at polled buffer heard (intake_at intakes index).stalls (told_at before index) (queued_at queued index) (get_or states index absent).taken
        ∙ ap (has_taken (has_said (index + 1) (heard ++ heard_by_poll (index + 1) at polled buffer) (intake_at intakes index).stalls (told_at before index)) (queued_at queued index)) (sym taken)

    not_true : (b : Bool) → not b ≡ true → b ≡ false
    not_true true e = cc
    not_true false e = refl

    not_false : (b : Bool) → not b ≡ false → b ≡ true
    not_false true e = refl
    not_false false e = cc

-- What was heard is an event, with its moment.
pub record IsHeardAs (seat at : ℕ) (heard : List Heard) (event : AbstractEvent) : Type 0 where
  pub one : Heard
  pub alone : heard ≡ one ∷ []
  pub is_event : event_of one ≡ event
  pub moment : heard_at one ≡ at
  pub of_seat : seat_of one ≡ seat
  pub no_put : is_failed_put one ≡ false
  pub no_round : is_round_over one ≡ false

only_one : (event other : AbstractEvent) → event ∷ [] ≡ other ∷ [] → other ≡ event
only_one event other e = sym (ap head e)
  where
    head : List AbstractEvent → AbstractEvent
    head [] = event
    head (first ∷ rest) = first

pub is_heard_as : (seat at : ℕ) (polled : Polled) (buffer : List ℕ) (event : AbstractEvent) →
    event ∷ [] ≡ map event_of (heard_by_poll seat at polled buffer) →
    IsHeardAs seat at (heard_by_poll seat at polled buffer) event
is_heard_as seat at (Got n) buffer event e = record { one = gave seat at (take n buffer); alone = refl; is_event = only_one event _ e; moment = refl; of_seat = refl; no_put = refl; no_round = refl }
is_heard_as seat at Nothing buffer event e = cc
is_heard_as seat at Ended buffer event e = record { one = ended seat at; alone = refl; is_event = only_one event _ e; moment = refl; of_seat = refl; no_put = refl; no_round = refl }
is_heard_as seat at Failed buffer event e = record { one = failed_to_give seat at; alone = refl; is_event = only_one event _ e; moment = refl; of_seat = refl; no_put = refl; no_round = refl }

pub not_heard : (seat at : ℕ) (polled : Polled) (buffer : List ℕ) →
    [] ≡ map event_of (heard_by_poll seat at polled buffer) → heard_by_poll seat at polled buffer ≡ []
not_heard seat at (Got n) buffer e = cc
not_heard seat at Nothing buffer e = refl
not_heard seat at Ended buffer e = cc
not_heard seat at Failed buffer e = cc

-- What the poll's clause says of the lines.
abbrev pub PollServes : {L : Type 0} (told : L → Told → Type 0) (failure_count : L → ℕ) (index : ℕ) (polled : Polled) (buffer : List ℕ)
    (lines used : List L) (states come : List LineState) → Type 0
PollServes told failure_count index polled buffer lines used states come =
    (before : List Told) (heard : List Heard) (queued : List (List ℕ)) (intakes : List Intake) (at : ℕ) →
    AreServed told failure_count before heard queued lines states intakes →
    IsLive (index + 1) heard
    × AreServed told failure_count before (heard ++ heard_by_poll (index + 1) at polled buffer) queued used come intakes

module _ {L S : Type 0} {told : L → Told → Type 0} {failure_count : L → ℕ} {engine : Behaviour S} {start : Start S} where
  -- a poll was heard
  pub poll_heard : (at index : ℕ) (polled : Polled) (buffer : List ℕ) {moments : List ℕ} {rounds : ℕ} {lines used : List L}
      {states come : List LineState} {state : S} {queued : List (List ℕ)} {event : AbstractEvent} →
      engine.listens state (index + 1) →
      index < length lines →
      length used ≡ length lines →
      length lines ≤ length queued →
      event ∷ [] ≡ map event_of (heard_by_poll (index + 1) at polled buffer) →
      PollServes told failure_count index polled buffer lines used states come →
      Passed told failure_count engine start moments rounds lines states state queued →
      HeardLast told failure_count engine start (moments ++ at ∷ []) rounds used come state queued event
  poll_heard at index polled buffer {moments = moments} {used = used} {come = come} {state = state} {queued = queued} {event = event} listens there as_many fits is serves passed =
      let call = passed.call in
      let heard = is_heard_as (index + 1) at polled buffer event is in
      let found = serves start.told call.heard queued call.intakes at call.served in
      record {
        before = call.heard;
        one = heard.one;
        is_event = heard.is_event;
        timed = subst (λ moment. IsTimed (moments ++ moment ∷ []) (call.heard ++ heard.one ∷ [])) heard.moment
            (heard_alone call.timed heard.one heard.no_put);
        live = of_line call.live heard.one (omega (arith, heard.of_seat)) (omega (arith, heard.of_seat, there, call.served.as_many_before))
            (subst (λ seat. IsLive seat call.heard) (sym heard.of_seat) found.0);
        count = omega (arith, call.count, count_more is_round_over call.heard heard.one, ap one_if heard.no_round);
        since = call.since;
        handles = call.handles;
        intakes = call.intakes;
        may = record { later = call.later; offered = λ _. passed.offered; polled = λ _. subst (engine.listens state) (sym heard.of_seat) listens };
        served = subst (λ more. AreServed told failure_count start.told (call.heard ++ more) queued used come call.intakes) heard.alone
            found.1;
        fits = omega (arith, as_many, fits);
      }

  -- a poll was not heard
  pub poll_unheard : (at index : ℕ) (polled : Polled) (buffer : List ℕ) {moments : List ℕ} {rounds : ℕ} {lines used : List L}
      {states come : List LineState} {state : S} {queued : List (List ℕ)} →
      [] ≡ map event_of (heard_by_poll (index + 1) at polled buffer) →
      PollServes told failure_count index polled buffer lines used states come →
      Passed told failure_count engine start moments rounds lines states state queued →
      Passed told failure_count engine start (moments ++ at ∷ []) rounds used come state queued
  poll_unheard at index polled buffer {lines = lines} {used = used} {states = states} {come = come} {queued = queued} is serves passed =
      let call = passed.call in
      record {
        call = asked_alone at call
            (subst (λ whole. AreServed told failure_count start.told whole queued used come call.intakes)
            (ap (λ more. call.heard ++ more) (not_heard (index + 1) at polled buffer is) ∙ append-nil call.heard)
            (serves start.told call.heard queued call.intakes at call.served).1);
        offered = passed.offered;
      }
