-- A table hears nothing of what lines do that ask for another one.
use Rattle.std.proofs.Common.{◌≡◌, ℕ, List, [], ◌∷◌, ◌++◌, Bool, true, false, refl, sym, ap, ◌∙◌, append_assoc, append-nil, ◌==◌, ◌&&◌, nat_lt, if◌then◌else◌, filter}
use Rattle.std.proofs.lemmas.Bool.{true≢false, ne_eqb}
use Rattle.rbg_wire.specs.Streams.{incomplete, cut}
use Rattle.rbg_match.specs.Limits.{message_limit}
use Rattle.rbg_hall.specs.TableLimits.{lines_in_all}
use Rattle.rbg_hall.proofs.Common.{asks_for, concerns, OthersAreUnheard, over, sent_by, has_ended, stream_of, line_after, first_request, heard_of, heard_of_piece, heard_of_end, own_after, is_for}
use Rattle.rbg_script.specs.Events.{AbstractEvent, piece, end_of_stream, moment_alone}
use Rattle.rbg_hall.proofs.Growing.{by_test, standing}
use Rattle.rbg_hall.proofs.Owning.{asks_in, unasked_before, own_piece_unheard, own_end_unheard}

pub chosen_same : {X : Type 0} (test : Bool) (x y : X) → test ≡ true → (if test then x else y) ≡ x
chosen_same true x y is = refl
chosen_same false x y is = absurd (true≢false (sym is))

pub chosen_other : {X : Type 0} (test : Bool) (x y : X) → test ≡ false → (if test then x else y) ≡ y
chosen_other true x y is = absurd (true≢false is)
chosen_other false x y is = refl

filter_more : {X : Type 0} (test : X → Bool) (xs : List X) (x : X) → filter test (xs ++ x ∷ []) ≡ filter test xs ++ (if test x then x ∷ [] else [])
filter_more test [] x = refl
filter_more test (y ∷ xs) x = by_first (test y) (filter_more test xs x)
  where
    by_first : (one : Bool) → filter test (xs ++ x ∷ []) ≡ filter test xs ++ (if test x then x ∷ [] else []) → (if one then y ∷ filter test (xs ++ x ∷ []) else filter test (xs ++ x ∷ [])) ≡ (if one then y ∷ filter test xs else filter test xs) ++ (if test x then x ∷ [] else [])
    by_first true same = ap (λ more. y ∷ more) same
    by_first false same = same

-- what a line did is kept whole, or not at all
module _ (tables table line : ℕ) (all : List AbstractEvent) where
  not_it : (other : ℕ) → asks_for tables table line all ≡ true → asks_for tables table other all ≡ false → (other == line) ≡ false
  not_it other asked unasked = ne_eqb other line (λ same. true≢false (sym asked ∙ ap (λ one. asks_for tables table one all) (sym same) ∙ unasked))

  is_it : (other : ℕ) → asks_for tables table line all ≡ false → asks_for tables table other all ≡ true → (other == line) ≡ false
  is_it other unasked asked = ne_eqb other line (λ same. true≢false (sym asked ∙ ap (λ one. asks_for tables table one all) same ∙ unasked))

  pub kept_sent : asks_for tables table line all ≡ true → (events : List AbstractEvent) → sent_by line (filter (concerns tables table all) events) ≡ sent_by line events
  kept_sent asked [] = refl
  kept_sent asked (piece other at bytes ∷ events) = by_test (asks_for tables table other all)
      (λ test. ap (sent_by line) (chosen_same (asks_for tables table other all) (piece other at bytes ∷ filter (concerns tables table all) events) (filter (concerns tables table all) events) test)
      ∙ ap (λ more. (if other == line then bytes else []) ++ more) (kept_sent asked events))
      (λ test. ap (sent_by line) (chosen_other (asks_for tables table other all) (piece other at bytes ∷ filter (concerns tables table all) events) (filter (concerns tables table all) events) test)
      ∙ kept_sent asked events
      ∙ ap (λ first. first ++ sent_by line events) (sym (chosen_other (other == line) bytes [] (not_it other asked test))))
  kept_sent asked (end_of_stream other at ∷ events) = by_test (asks_for tables table other all)
      (λ test. ap (sent_by line) (chosen_same (asks_for tables table other all) (end_of_stream other at ∷ filter (concerns tables table all) events) (filter (concerns tables table all) events) test)
      ∙ ap (λ more. if other == line then [] else more) (kept_sent asked events))
      (λ test. ap (sent_by line) (chosen_other (asks_for tables table other all) (end_of_stream other at ∷ filter (concerns tables table all) events) (filter (concerns tables table all) events) test)
      ∙ kept_sent asked events
      ∙ sym (chosen_other (other == line) [] (sent_by line events) (not_it other asked test)))
  kept_sent asked (moment_alone at ∷ events) = kept_sent asked events

  kept_ended : asks_for tables table line all ≡ true → (events : List AbstractEvent) → has_ended line (filter (concerns tables table all) events) ≡ has_ended line events
  kept_ended asked [] = refl
  kept_ended asked (piece other at bytes ∷ events) = by_test (asks_for tables table other all)
      (λ test. ap (has_ended line) (chosen_same (asks_for tables table other all) (piece other at bytes ∷ filter (concerns tables table all) events) (filter (concerns tables table all) events) test)
      ∙ kept_ended asked events)
      (λ test. ap (has_ended line) (chosen_other (asks_for tables table other all) (piece other at bytes ∷ filter (concerns tables table all) events) (filter (concerns tables table all) events) test)
      ∙ kept_ended asked events)
  kept_ended asked (end_of_stream other at ∷ events) = by_test (asks_for tables table other all)
      (λ test. ap (has_ended line) (chosen_same (asks_for tables table other all) (end_of_stream other at ∷ filter (concerns tables table all) events) (filter (concerns tables table all) events) test)
      ∙ ap (λ more. if other == line then true else more) (kept_ended asked events))
      (λ test. ap (has_ended line) (chosen_other (asks_for tables table other all) (end_of_stream other at ∷ filter (concerns tables table all) events) (filter (concerns tables table all) events) test)
      ∙ kept_ended asked events
      ∙ sym (chosen_other (other == line) true (has_ended line events) (not_it other asked test)))
  kept_ended asked (moment_alone at ∷ events) = kept_ended asked events

  line_kept : asks_for tables table line all ≡ true → (events : List AbstractEvent) → line_after tables line (filter (concerns tables table all) events) ≡ line_after tables line events
  line_kept asked events = λ i. standing (kept_ended asked events i) (nat_lt line lines_in_all) tables (cut message_limit (incomplete []) (kept_sent asked events i))

  pub dropped_sent : asks_for tables table line all ≡ false → (events : List AbstractEvent) → sent_by line (filter (concerns tables table all) events) ≡ []
  dropped_sent unasked [] = refl
  dropped_sent unasked (piece other at bytes ∷ events) = by_test (asks_for tables table other all)
      (λ test. ap (sent_by line) (chosen_same (asks_for tables table other all) (piece other at bytes ∷ filter (concerns tables table all) events) (filter (concerns tables table all) events) test)
      ∙ ap (λ first. first ++ sent_by line (filter (concerns tables table all) events)) (chosen_other (other == line) bytes [] (is_it other unasked test))
      ∙ dropped_sent unasked events)
      (λ test. ap (sent_by line) (chosen_other (asks_for tables table other all) (piece other at bytes ∷ filter (concerns tables table all) events) (filter (concerns tables table all) events) test)
      ∙ dropped_sent unasked events)
  dropped_sent unasked (end_of_stream other at ∷ events) = by_test (asks_for tables table other all)
      (λ test. ap (sent_by line) (chosen_same (asks_for tables table other all) (end_of_stream other at ∷ filter (concerns tables table all) events) (filter (concerns tables table all) events) test)
      ∙ chosen_other (other == line) [] (sent_by line (filter (concerns tables table all) events)) (is_it other unasked test)
      ∙ dropped_sent unasked events)
      (λ test. ap (sent_by line) (chosen_other (asks_for tables table other all) (end_of_stream other at ∷ filter (concerns tables table all) events) (filter (concerns tables table all) events) test)
      ∙ dropped_sent unasked events)
  dropped_sent unasked (moment_alone at ∷ events) = dropped_sent unasked events

  -- nothing is heard of a line that asks for another table, or isn't there
  pub not_there : (events : List AbstractEvent) → nat_lt line lines_in_all ≡ false → line_after tables line events ≡ over
  not_there events away = ap (λ there. standing (has_ended line events) there tables (stream_of line events)) away ∙ never (has_ended line events)
    where
      never : (ended : Bool) → standing ended false tables (stream_of line events) ≡ over
      never true = refl
      never false = refl

  unasked_in : nat_lt line lines_in_all ≡ true → asks_for tables table line all ≡ false → asks_in tables table line all ≡ false
  unasked_in there unasked = ap (λ one. one && asks_in tables table line all) (sym there) ∙ unasked

  piece_unheard_here : (at : ℕ) (bytes : List ℕ) (before events : List AbstractEvent) → (before ++ piece line at bytes ∷ []) ++ events ≡ all → asks_for tables table line all ≡ false → heard_of_piece tables table (line_after tables line before) line at bytes ≡ []
  piece_unheard_here at bytes before events whole unasked = by_test (nat_lt line lines_in_all)
      (λ there. own_piece_unheard tables table line at bytes before
      (unasked_before tables table line (before ++ piece line at bytes ∷ []) events (ap (asks_in tables table line) whole ∙ unasked_in there unasked)))
      (λ away. ap (λ one. heard_of_piece tables table one line at bytes) (not_there before away))

  end_unheard_here : (at : ℕ) (before events : List AbstractEvent) → (before ++ end_of_stream line at ∷ []) ++ events ≡ all → asks_for tables table line all ≡ false → heard_of_end table (line_after tables line before) line at ≡ []
  end_unheard_here at before events whole unasked = by_test (nat_lt line lines_in_all)
      (λ there. own_end_unheard tables table line at before
      (unasked_before tables table line before (end_of_stream line at ∷ events) (ap (asks_in tables table line) (sym (append_assoc before (end_of_stream line at ∷ []) events) ∙ whole) ∙ unasked_in there unasked)))
      (λ away. ap (λ one. heard_of_end table one line at) (not_there before away))

module _ (tables table : ℕ) (all : List AbstractEvent) where
  heard_kept : (before : List AbstractEvent) (event : AbstractEvent) → concerns tables table all event ≡ true → heard_of tables table (λ line. line_after tables line (filter (concerns tables table all) before)) event ≡ heard_of tables table (λ line. line_after tables line before) event
  heard_kept before (piece line at bytes) kept = ap (λ one. heard_of_piece tables table one line at bytes) (line_kept tables table line all kept before)
  heard_kept before (end_of_stream line at) kept = ap (λ one. heard_of_end table one line at) (line_kept tables table line all kept before)
  heard_kept before (moment_alone at) kept = refl

  heard_dropped : (before events : List AbstractEvent) (event : AbstractEvent) → (before ++ event ∷ []) ++ events ≡ all → concerns tables table all event ≡ false → heard_of tables table (λ line. line_after tables line before) event ≡ []
  heard_dropped before events (piece line at bytes) whole dropped = piece_unheard_here tables table line all at bytes before events whole dropped
  heard_dropped before events (end_of_stream line at) whole dropped = end_unheard_here tables table line all at before events whole dropped
  heard_dropped before events (moment_alone at) whole dropped = absurd (true≢false dropped)

  others_dropped : (before events : List AbstractEvent) → before ++ events ≡ all → own_after tables table (filter (concerns tables table all) before) (filter (concerns tables table all) events) ≡ own_after tables table before events
  others_dropped before [] whole = refl
  others_dropped before (event ∷ events) whole =
      let joined : (before ++ event ∷ []) ++ events ≡ all = append_assoc before (event ∷ []) events ∙ whole in
      let next = others_dropped (before ++ event ∷ []) events joined in
      by_test (concerns tables table all event)
      (λ kept.
      ap (own_after tables table (filter (concerns tables table all) before)) (chosen_same (concerns tables table all event) (event ∷ filter (concerns tables table all) events) (filter (concerns tables table all) events) kept)
      ∙ ap (λ heard. heard ++ own_after tables table (filter (concerns tables table all) before ++ event ∷ []) (filter (concerns tables table all) events)) (heard_kept before event kept)
      ∙ ap (λ earlier. heard_of tables table (λ line. line_after tables line before) event ++ own_after tables table earlier (filter (concerns tables table all) events))
      (ap (λ last. filter (concerns tables table all) before ++ last) (sym (chosen_same (concerns tables table all event) (event ∷ []) [] kept)) ∙ sym (filter_more (concerns tables table all) before event))
      ∙ ap (λ more. heard_of tables table (λ line. line_after tables line before) event ++ more) next)
      (λ dropped.
      ap (own_after tables table (filter (concerns tables table all) before)) (chosen_other (concerns tables table all event) (event ∷ filter (concerns tables table all) events) (filter (concerns tables table all) events) dropped)
      ∙ ap (λ earlier. own_after tables table earlier (filter (concerns tables table all) events))
      (sym (append-nil (filter (concerns tables table all) before)) ∙ ap (λ last. filter (concerns tables table all) before ++ last) (sym (chosen_other (concerns tables table all event) (event ∷ []) [] dropped)) ∙ sym (filter_more (concerns tables table all) before event))
      ∙ next
      ∙ ap (λ heard. heard ++ own_after tables table (before ++ event ∷ []) events) (sym (heard_dropped before events event joined dropped)))

pub others_are_unheard : OthersAreUnheard
others_are_unheard tables table events = others_dropped tables table events [] events refl

-- nothing that was sent asks for a table
pub nothing_asked : (tables table : ℕ) → is_for table (first_request tables (cut message_limit (incomplete []) []).items) ≡ false
unfolding cut
nothing_asked tables table = refl

pub second_true : (a b : Bool) → (a && b) ≡ true → b ≡ true
second_true true b both = both
second_true false b both = absurd (true≢false (sym both))

pub first_true : (a b : Bool) → (a && b) ≡ true → a ≡ true
first_true true b both = refl
first_true false b both = absurd (true≢false (sym both))
