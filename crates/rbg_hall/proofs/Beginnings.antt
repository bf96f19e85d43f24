-- A match that has begun at a table of a hall.
use Rattle.std.proofs.Common.{◌≡◌, ℕ, ◌+◌, ◌-◌, List, [], ◌∷◌, ◌++◌, length, get_or, true, false, sym, ap, ◌∙◌, subst, append_assoc, arith, Option, Some, None, inl, inr, nat_lt, slice_get, flat_map}
use Rattle.std.proofs.lemmas.Bool.{true≢false, eqb-true, ltb-true}
use Rattle.rbg_match.proofs.Common.{bytes_for, message_limit}
use Rattle.rbg_wire.specs.Streams.{incomplete, cut}
use Rattle.rbg_hall.proofs.TableCommon.{Beginning, HoldsTranscript, lines_in_all, TableState, OwnEvent, joins, Telling, bytes_to}
use Rattle.rbg_hall.proofs.Holding.{run_holds_transcript}
use Rattle.rbg_hall.proofs.Places.{set_cases}
use Rattle.rbg_hall.proofs.Common.{asks_for, concerning, AbstractTable, HallState, BegunMatchesHoldTranscripts, HoldsMatch, early_refusal, stream_of, first_request, own, is_for}
use Rattle.rbg_script.specs.Events.{AbstractEvent}
use Rattle.rbg_hall.proofs.Apart.{dropped_sent, first_true, nothing_asked, others_are_unheard, second_true}
use Rattle.rbg_hall.proofs.Early.{JoinsFirst, early_told, joins_before, lacks_early, nothing_before, own_joins}
use Rattle.rbg_hall.proofs.Growing.{by_test}
use Rattle.rbg_hall.proofs.Owning.{Lacks, asks_in, own_lacks}
use Rattle.rbg_hall.proofs.HallRunning.{Stands, told_by, asked_untold, run_of, run_stands}
use Rattle.rbg_hall.proofs.Silence.{all_unmoved}

same_table : {a b : TableState} → Some a ≡ Some b → a ≡ b
same_table is = cc

-- a table hears nothing of a line that doesn't ask for it, or isn't there
pub unasked_lacks : (tables table line : ℕ) (events : List AbstractEvent) → asks_for tables table line events ≡ false → Lacks line (own tables table events)
unasked_lacks tables table line events unasked =
    subst (Lacks line) (others_are_unheard tables table events)
    (own_lacks tables table line (concerning tables table events)
    (ap (λ sent. is_for table (first_request tables (cut message_limit (incomplete []) sent).items)) (dropped_sent tables table line events unasked events) ∙ nothing_asked tables table))

-- a line on a seat was told this before the match began
pub early_so : {start : AbstractTable} {heard : List OwnEvent} {seats : List (Option ℕ)} (beginning : Beginning start.game start.text start.config heard seats) (index line : ℕ) → JoinsFirst line heard → slice_get seats index ≡ Some (Some line) → bytes_to line beginning.early ≡ flat_map (early_refusal line) beginning.before
early_so {heard = heard} beginning index line first there =
    let begins : JoinsFirst line (beginning.before ++ joins beginning.line beginning.at ∷ []) =
    joins_before line (beginning.before ++ joins beginning.line beginning.at ∷ []) beginning.after
    (subst (JoinsFirst line) (beginning.whole ∙ sym (append_assoc beginning.before (joins beginning.line beginning.at ∷ []) beginning.after)) first) in
    elim (set_cases beginning.gathering.seats beginning.takes.index index (Some beginning.line) (Some line) (ap (λ all. slice_get all index) (sym beginning.takes.taken) ∙ there)) [
      | inl here ↦ (let lacks = nothing_before line beginning.line beginning.at beginning.before (one (sym here.1)) begins in
          (all_unmoved line beginning.gathers lacks).1 ∙ sym (lacks_early line beginning.before lacks))
      | inr away ↦ early_told line beginning.gathers beginning.waits (joins_before line beginning.before (joins beginning.line beginning.at ∷ []) begins) index away.1
    ]
  where
    one : {a b : ℕ} → Some a ≡ Some b → a ≡ b
    one is = cc

module _ {starts : List AbstractTable} {events : List AbstractEvent} {state : HallState} {told : List Telling} (stands : Stands starts events state told) (index line : ℕ) where
  -- what a line has that asks for a table
  pub told_there : asks_for (length starts) (1 + index) line events ≡ true → bytes_to line told ≡ bytes_to line (get_or stands.tolds index [])
  told_there asked =
      let within = ltb-true line lines_in_all (first_true (nat_lt line lines_in_all) (asks_in (length starts) (1 + index) line events) asked) in
      let asked_it = second_true (nat_lt line lines_in_all) (asks_in (length starts) (1 + index) line events) asked in
      stands.bytes line within
      ∙ ap (λ first. first ++ told_by stands.tolds line (first_request (length starts) (stream_of line events).items)) (asked_untold (length starts) line (stream_of line events).items (1 + index) asked_it)
      ∙ by_request (first_request (length starts) (stream_of line events).items) asked_it
    where
      by_request : (one : Option ℕ) → is_for (1 + index) one ≡ true → told_by stands.tolds line one ≡ bytes_to line (get_or stands.tolds index [])
      by_request (Some other) it = ap (λ place. bytes_to line (get_or stands.tolds place [])) (place other (eqb-true other (1 + index) it))
        where
          place : (other : ℕ) → other ≡ 1 + index → other - 1 ≡ index
          place other is = omega (arith, is)
      by_request None it = absurd (true≢false (sym it))

pub begun_matches_hold_transcripts : BegunMatchesHoldTranscripts
begun_matches_hold_transcripts starts events state told run index start table playing there standing begun =
    let stands = run_stands run in
    let found = run_of index start stands.runs there in
    let same : found.0 ≡ table = same_table (sym found.1 ∙ standing) in
    let here : found.0.begun ≡ Some playing = subst (λ (one : TableState). one.begun ≡ Some playing) (sym same) begun in
    let number : 1 + index ≡ index + 1 = omega arith in
    let holds : HoldsTranscript start.game start.text start.config (own (length starts) (1 + index) events) found.0.seats playing (get_or stands.tolds index []) =
    run_holds_transcript start.game start.text start.config (own (length starts) (1 + index) events) (get_or stands.tolds index []) (record { state = found.0; runs = found.2 }) playing here in
    subst (λ n. HoldsMatch start (own (length starts) n events) table.seats playing told) number
    (subst (λ (one : TableState). HoldsMatch start (own (length starts) (1 + index) events) one.seats playing told) same
    (record {
      by_table = get_or stands.tolds index [];
      holds = holds;
      on_seats = λ place line sits. by_test (asks_for (length starts) (1 + index) line events)
          (λ asked. told_there stands index line asked ∙ holds.on_seats place line sits
          ∙ ap (λ early. early ++ bytes_for (place + 1) holds.outgoing) (early_so holds.beginning place line (own_joins (length starts) (1 + index) line events) sits))
          (λ unasked. absurd ((all_unmoved line found.2 (unasked_lacks (length starts) (1 + index) line events unasked)).0 place sits));
    }))
