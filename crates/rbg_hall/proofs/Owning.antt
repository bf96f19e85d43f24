-- What a table hears, as more events come, and of which lines it hears nothing.
use Rattle.std.proofs.Common.{◌≡◌, ℕ, List, [], ◌∷◌, ◌++◌, map, Bool, true, false, refl, sym, ap, ◌∙◌, subst, append_assoc, append-nil, Option, Some, None, ◌==◌, nat_lt, if◌then◌else◌}
use Rattle.std.proofs.lemmas.Bool.{true≢false, eqb-true}
use Rattle.rbg_wire.specs.Streams.{Item, Rest, incomplete, Cut, cut}
use Rattle.rbg_wire.proofs.CutLemmas.{cut-append}
use Rattle.rbg_match.specs.Limits.{message_limit}
use Rattle.rbg_hall.proofs.TableCommon.{lines_in_all, OwnEvent, clock, joins, arrives, says, leaves}
use Rattle.rbg_hall.proofs.Common.{HallLine, silent, asks, over, asking, line_cut, sent_by, has_ended, stream_of, line_after, first_request, heard_first, heard_of_piece, heard_of_end, heard_of, own_after, own, requested, is_for}
use Rattle.rbg_script.specs.Events.{AbstractEvent, piece, end_of_stream, moment_alone}
use Rattle.rbg_hall.proofs.Growing.{by_test, brings, brings_own, sent_more, standing}

after_more : (tables table : ℕ) (before events : List AbstractEvent) (event : AbstractEvent) → own_after tables table before (events ++ event ∷ []) ≡ own_after tables table before events ++ heard_of tables table (λ line. line_after tables line (before ++ events)) event
after_more tables table before [] event =
    append-nil (heard_of tables table (λ line. line_after tables line before) event)
    ∙ ap (λ (all : List AbstractEvent). heard_of tables table (λ line. line_after tables line all) event) (sym (append-nil before))
after_more tables table before (first ∷ events) event =
    let heard = heard_of tables table (λ line. line_after tables line before) first in
    ap (λ next. heard ++ next) (after_more tables table (before ++ first ∷ []) events event)
    ∙ sym (append_assoc heard (own_after tables table (before ++ first ∷ []) events) (heard_of tables table (λ line. line_after tables line ((before ++ first ∷ []) ++ events)) event))
    ∙ ap (λ (all : List AbstractEvent). (heard ++ own_after tables table (before ++ first ∷ []) events) ++ heard_of tables table (λ line. line_after tables line all) event) (append_assoc before (first ∷ []) events)

-- what a table hears of one more event
pub own_more : (tables table : ℕ) (events : List AbstractEvent) (event : AbstractEvent) → own tables table (events ++ event ∷ []) ≡ own tables table events ++ heard_of tables table (λ line. line_after tables line events) event
own_more tables table events event = after_more tables table [] events event

-- whether what a table hears is of this line
abbrev pub is_of : (line : ℕ) → OwnEvent → Bool
is_of line (clock at) = false
is_of line (joins other at) = other == line
is_of line (arrives other at) = other == line
is_of line (says other at item) = other == line
is_of line (leaves other at) = other == line

-- nothing that a table hears is of this line
abbrev pub Lacks : (line : ℕ) → List OwnEvent → Type 0
Lacks line [] = Unit {0}
Lacks line (event ∷ events) = (is_of line event ≡ false) × Lacks line events

pub lacks_append : (line : ℕ) (a b : List OwnEvent) → Lacks line a → Lacks line b → Lacks line (a ++ b)
lacks_append line [] b first next = next
lacks_append line (event ∷ a) b first next = (first.0, lacks_append line a b first.1 next)

pub lacks_first : (line : ℕ) (a b : List OwnEvent) → Lacks line (a ++ b) → Lacks line a
lacks_first line [] b all = tt
lacks_first line (event ∷ a) b all = (all.0, lacks_first line a b all.1)

pub lacks_next : (line : ℕ) (a b : List OwnEvent) → Lacks line (a ++ b) → Lacks line b
lacks_next line [] b all = all
lacks_next line (event ∷ a) b all = lacks_next line a b all.1

-- whether the first item that a line sent asks for the table
abbrev pub asks_in : (tables table line : ℕ) → List AbstractEvent → Bool
asks_in tables table line events = is_for table (first_request tables (stream_of line events).items)

request_kept : (tables table : ℕ) (items more : List Item) → is_for table (first_request tables items) ≡ true → is_for table (first_request tables (items ++ more)) ≡ true
request_kept tables table [] more asked = absurd (true≢false (sym asked))
request_kept tables table (item ∷ items) more asked = asked

asked_on : (tables table : ℕ) (sent more : List ℕ) → is_for table (first_request tables (cut message_limit (incomplete []) sent).items) ≡ true → is_for table (first_request tables (cut message_limit (incomplete []) (sent ++ more)).items) ≡ true
asked_on tables table sent more asked =
    ap (λ c. is_for table (first_request tables c.items)) (cut-append message_limit (incomplete []) sent more)
    ∙ request_kept tables table (cut message_limit (incomplete []) sent).items (cut message_limit (cut message_limit (incomplete []) sent).rest more).items asked

asked_more : (tables table line : ℕ) (events : List AbstractEvent) (event : AbstractEvent) → asks_in tables table line events ≡ true → asks_in tables table line (events ++ event ∷ []) ≡ true
asked_more tables table line events event asked =
    ap (λ sent. is_for table (first_request tables (cut message_limit (incomplete []) sent).items)) (sent_more line events event)
    ∙ asked_on tables table (sent_by line events) (if has_ended line events then [] else brings line event) asked

-- a line that asks for a table goes on to do so
pub asked_later : (tables table line : ℕ) (events more : List AbstractEvent) → asks_in tables table line events ≡ true → asks_in tables table line (events ++ more) ≡ true
asked_later tables table line events [] asked = ap (asks_in tables table line) (append-nil events) ∙ asked
asked_later tables table line events (event ∷ more) asked =
    ap (asks_in tables table line) (sym (append_assoc events (event ∷ []) more))
    ∙ asked_later tables table line (events ++ event ∷ []) more (asked_more tables table line events event asked)

-- one that doesn't hasn't before
pub unasked_before : (tables table line : ℕ) (events more : List AbstractEvent) → asks_in tables table line (events ++ more) ≡ false → asks_in tables table line events ≡ false
unasked_before tables table line events more unasked =
    by_test (asks_in tables table line events)
    (λ asked. absurd (true≢false (sym (asked_later tables table line events more asked) ∙ unasked)))
    (λ it. it)

-- What a table hears of a line is of that line.
items_lack : (line other at : ℕ) (items : List Item) → (other == line) ≡ false → Lacks line (map (says other at) items)
items_lack line other at [] differ = tt
items_lack line other at (item ∷ items) differ = (differ, items_lack line other at items differ)

chosen_lacks : (line : ℕ) (test : Bool) (heard : List OwnEvent) → Lacks line heard → Lacks line (if test then heard else [])
chosen_lacks line true heard lacks = lacks
chosen_lacks line false heard lacks = tt

first_lacks : (tables table line other at : ℕ) (items : List Item) → (other == line) ≡ false → Lacks line (heard_first tables table other at items)
first_lacks tables table line other at [] differ = tt
first_lacks tables table line other at (item ∷ items) differ =
    chosen_lacks line (is_for table (requested tables item)) (joins other at ∷ map (says other at) items) (differ, items_lack line other at items differ)

piece_lacks : (tables table line other at : ℕ) (bytes : List ℕ) (one : HallLine) → (other == line) ≡ false → Lacks line (heard_of_piece tables table one other at bytes)
piece_lacks tables table line other at bytes (silent rest) differ = first_lacks tables table line other at (cut message_limit rest bytes).items differ
piece_lacks tables table line other at bytes (asks asked rest) differ =
    let items = (cut message_limit rest bytes).items in
    chosen_lacks line (asked == table) (arrives other at ∷ map (says other at) items) (differ, items_lack line other at items differ)
piece_lacks tables table line other at bytes over differ = tt

end_lacks : (table line other at : ℕ) (one : HallLine) → (other == line) ≡ false → Lacks line (heard_of_end table one other at)
end_lacks table line other at (silent rest) differ = tt
end_lacks table line other at (asks asked rest) differ = chosen_lacks line (asked == table) (leaves other at ∷ []) (differ, tt)
end_lacks table line other at over differ = tt

-- A table hears nothing of a line that doesn't ask for it.
module _ (tables table line at : ℕ) where
  end_of_asking : (one : Option ℕ) (rest : Rest) → is_for table one ≡ false → heard_of_end table (asking one rest) line at ≡ []
  end_of_asking (Some asked) rest unasked = rw unasked refl
  end_of_asking None rest unasked = refl

  end_of_cut : (items : List Item) (rest : Rest) → is_for table (first_request tables items) ≡ false → heard_of_end table (line_cut tables items rest) line at ≡ []
  end_of_cut [] rest unasked = refl
  end_of_cut (item ∷ items) rest unasked = end_of_asking (requested tables item) rest unasked

  end_unheard : (ended there : Bool) (c : Cut) → is_for table (first_request tables c.items) ≡ false → heard_of_end table (standing ended there tables c) line at ≡ []
  end_unheard true there c unasked = refl
  end_unheard false true c unasked = end_of_cut c.items c.rest unasked
  end_unheard false false c unasked = refl

  piece_of_asking : (one : Option ℕ) (rest : Rest) (bytes : List ℕ) → is_for table one ≡ false → heard_of_piece tables table (asking one rest) line at bytes ≡ []
  piece_of_asking (Some asked) rest bytes unasked = rw unasked refl
  piece_of_asking None rest bytes unasked = refl

  first_unheard : (items : List Item) → is_for table (first_request tables items) ≡ false → heard_first tables table line at items ≡ []
  first_unheard [] unasked = refl
  first_unheard (item ∷ items) unasked = rw unasked refl

  piece_of_cut : (items : List Item) (rest : Rest) (bytes : List ℕ) → is_for table (first_request tables (items ++ (cut message_limit rest bytes).items)) ≡ false → heard_of_piece tables table (line_cut tables items rest) line at bytes ≡ []
  piece_of_cut [] rest bytes unasked = first_unheard (cut message_limit rest bytes).items unasked
  piece_of_cut (item ∷ items) rest bytes unasked = piece_of_asking (requested tables item) rest bytes unasked

  piece_unheard : (ended there : Bool) (sent bytes : List ℕ) → is_for table (first_request tables (cut message_limit (incomplete []) (sent ++ (if ended then [] else bytes))).items) ≡ false → heard_of_piece tables table (standing ended there tables (cut message_limit (incomplete []) sent)) line at bytes ≡ []
  piece_unheard true there sent bytes unasked = refl
  piece_unheard false true sent bytes unasked =
      piece_of_cut (cut message_limit (incomplete []) sent).items (cut message_limit (incomplete []) sent).rest bytes
      (ap (λ c. is_for table (first_request tables c.items)) (sym (cut-append message_limit (incomplete []) sent bytes)) ∙ unasked)
  piece_unheard false false sent bytes unasked = refl

  pub own_end_unheard : (events : List AbstractEvent) → asks_in tables table line events ≡ false → heard_of_end table (line_after tables line events) line at ≡ []
  own_end_unheard events unasked = end_unheard (has_ended line events) (nat_lt line lines_in_all) (stream_of line events) unasked

  pub own_piece_unheard : (bytes : List ℕ) (events : List AbstractEvent) → asks_in tables table line (events ++ piece line at bytes ∷ []) ≡ false → heard_of_piece tables table (line_after tables line events) line at bytes ≡ []
  own_piece_unheard bytes events unasked =
      let sent : sent_by line (events ++ piece line at bytes ∷ []) ≡ sent_by line events ++ (if has_ended line events then [] else bytes) =
      sent_more line events (piece line at bytes) ∙ ap (λ own. sent_by line events ++ (if has_ended line events then [] else own)) (brings_own line at bytes) in
      piece_unheard (has_ended line events) (nat_lt line lines_in_all) (sent_by line events) bytes
      (ap (λ all. is_for table (first_request tables (cut message_limit (incomplete []) all).items)) (sym sent) ∙ unasked)

-- of a line that doesn't ask for it, a table hears nothing in one more event
pub heard_lacks : (tables table line : ℕ) (events : List AbstractEvent) (event : AbstractEvent) → asks_in tables table line (events ++ event ∷ []) ≡ false → Lacks line (heard_of tables table (λ one. line_after tables one events) event)
heard_lacks tables table line events (piece other at bytes) unasked =
    by_test (other == line)
    (λ test.
    let same : line ≡ other = sym (eqb-true other line test) in
    let all : asks_in tables table other (events ++ piece other at bytes ∷ []) ≡ false = subst (λ one. asks_in tables table one (events ++ piece other at bytes ∷ []) ≡ false) same unasked in
    subst (Lacks line) (sym (own_piece_unheard tables table other at bytes events all)) tt)
    (λ test. piece_lacks tables table line other at bytes (line_after tables other events) test)
heard_lacks tables table line events (end_of_stream other at) unasked =
    by_test (other == line)
    (λ test.
    let same : line ≡ other = sym (eqb-true other line test) in
    let all : asks_in tables table other events ≡ false = subst (λ one. asks_in tables table one events ≡ false) same (unasked_before tables table line events (end_of_stream other at ∷ []) unasked) in
    subst (Lacks line) (sym (own_end_unheard tables table other at events all)) tt)
    (λ test. end_lacks table line other at (line_after tables other events) test)
heard_lacks tables table line events (moment_alone at) unasked = (refl, tt)

after_lacks : (tables table line : ℕ) (before events : List AbstractEvent) → asks_in tables table line (before ++ events) ≡ false → Lacks line (own_after tables table before events)
after_lacks tables table line before [] unasked = tt
after_lacks tables table line before (event ∷ events) unasked =
    let all : asks_in tables table line ((before ++ event ∷ []) ++ events) ≡ false = ap (asks_in tables table line) (append_assoc before (event ∷ []) events) ∙ unasked in
    lacks_append line (heard_of tables table (λ one. line_after tables one before) event) (own_after tables table (before ++ event ∷ []) events)
    (heard_lacks tables table line before event (unasked_before tables table line (before ++ event ∷ []) events all))
    (after_lacks tables table line (before ++ event ∷ []) events all)

-- A table hears nothing of a line that doesn't ask for it.
pub own_lacks : (tables table line : ℕ) (events : List AbstractEvent) → asks_in tables table line events ≡ false → Lacks line (own tables table events)
own_lacks tables table line events unasked = after_lacks tables table line [] events unasked
