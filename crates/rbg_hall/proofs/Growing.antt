-- A line, as more events come.
use Rattle.std.proofs.Common.{◌≡◌, ◌≢◌, ℕ, List, [], ◌∷◌, ◌++◌, Bool, true, false, refl, sym, ap, ◌∙◌, append_assoc, append-nil, Option, Some, None, ◌==◌, nat_lt, if◌then◌else◌}
use Rattle.std.proofs.lemmas.Bool.{eq-eqb, ne_eqb}
use Rattle.rbg_wire.specs.Streams.{Item, Rest, incomplete, Cut, cut}
use Rattle.rbg_wire.proofs.CutLemmas.{cut-append}
use Rattle.rbg_match.specs.Limits.{message_limit}
use Rattle.rbg_hall.specs.TableLimits.{lines_in_all}
use Rattle.rbg_hall.proofs.Common.{HallLine, silent, asks, over, asking, line_cut, sent_by, has_ended, stream_of, line_after, line_beyond, requested}
use Rattle.rbg_script.specs.Events.{AbstractEvent, piece, end_of_stream, moment_alone}

-- the bytes that an event brings of a line, and whether it ends it
abbrev pub brings : (line : ℕ) → AbstractEvent → List ℕ
brings line (piece other at bytes) = if other == line then bytes else []
brings line (end_of_stream other at) = []
brings line (moment_alone at) = []

abbrev pub is_end_of : (line : ℕ) → AbstractEvent → Bool
is_end_of line (piece other at bytes) = false
is_end_of line (end_of_stream other at) = if other == line then true else false
is_end_of line (moment_alone at) = false

pub brings_own : (line at : ℕ) (bytes : List ℕ) → brings line (piece line at bytes) ≡ bytes
brings_own line at bytes = rw (eq-eqb line line refl) refl

pub brings_other : (line other at : ℕ) (bytes : List ℕ) → other ≢ line → brings line (piece other at bytes) ≡ []
brings_other line other at bytes differ = rw (ne_eqb other line differ) refl

-- one of two cases
pub by_test : {P : Type 0} (test : Bool) → (test ≡ true → P) → (test ≡ false → P) → P
by_test true holds fails = holds refl
by_test false holds fails = fails refl

same_lists : (test : Bool) (none : List ℕ) → (if test then none else none) ≡ none
same_lists true none = refl
same_lists false none = refl

chosen : (test : Bool) (others more : List ℕ) (ended : Bool) (rest : List ℕ) → more ≡ others ++ (if ended then [] else rest) → (if test then [] else more) ≡ (if test then [] else others) ++ (if (if test then true else ended) then [] else rest)
chosen true others more ended rest is = refl
chosen false others more ended rest is = is

pub sent_more : (line : ℕ) (events : List AbstractEvent) (event : AbstractEvent) → sent_by line (events ++ event ∷ []) ≡ sent_by line events ++ (if has_ended line events then [] else brings line event)
sent_more line [] (piece other at bytes) = append-nil (if other == line then bytes else [])
sent_more line [] (end_of_stream other at) = same_lists (other == line) []
sent_more line [] (moment_alone at) = refl
sent_more line (piece other at bytes ∷ events) event =
    ap (λ more. (if other == line then bytes else []) ++ more) (sent_more line events event)
    ∙ sym (append_assoc (if other == line then bytes else []) (sent_by line events) (if has_ended line events then [] else brings line event))
sent_more line (end_of_stream other at ∷ events) event = chosen (other == line) (sent_by line events) (sent_by line (events ++ event ∷ [])) (has_ended line events) (brings line event) (sent_more line events event)
sent_more line (moment_alone at ∷ events) event = sent_more line events event

ended_chosen : (test ended last more : Bool) → more ≡ (if ended then true else last) → (if test then true else more) ≡ (if (if test then true else ended) then true else last)
ended_chosen true ended last more is = refl
ended_chosen false ended last more is = is

pub ended_more : (line : ℕ) (events : List AbstractEvent) (event : AbstractEvent) → has_ended line (events ++ event ∷ []) ≡ (if has_ended line events then true else is_end_of line event)
ended_more line [] (piece other at bytes) = refl
ended_more line [] (end_of_stream other at) = refl
ended_more line [] (moment_alone at) = refl
ended_more line (piece other at bytes ∷ events) event = ended_more line events event
ended_more line (end_of_stream other at ∷ events) event = ended_chosen (other == line) (has_ended line events) (is_end_of line event) (has_ended line (events ++ event ∷ [])) (ended_more line events event)
ended_more line (moment_alone at ∷ events) event = ended_more line events event

-- what a line is whose stream is cut like this, where it is there and whether it has ended
abbrev pub standing : (ended there : Bool) → (tables : ℕ) → Cut → HallLine
standing ended there tables c = if ended then over else if there then line_cut tables c.items c.rest else over

-- a line that has cut its stream, and cuts more
cut_on : (tables : ℕ) (items : List Item) (rest : Rest) (bytes : List ℕ) → line_cut tables (items ++ (cut message_limit rest bytes).items) (cut message_limit rest bytes).rest ≡ line_beyond tables (line_cut tables items rest) bytes
cut_on tables [] rest bytes = refl
cut_on tables (item ∷ items) rest bytes = asked (requested tables item)
  where
    asked : (table : Option ℕ) → asking table (cut message_limit rest bytes).rest ≡ line_beyond tables (asking table rest) bytes
    asked (Some table) = refl
    asked None = refl

-- a line that sends more
sent_on : (ended there : Bool) (tables : ℕ) (sent bytes : List ℕ) → standing ended there tables (cut message_limit (incomplete []) (sent ++ (if ended then [] else bytes))) ≡ line_beyond tables (standing ended there tables (cut message_limit (incomplete []) sent)) bytes
sent_on true there tables sent bytes = refl
sent_on false false tables sent bytes = refl
sent_on false true tables sent bytes =
    ap (λ c. line_cut tables c.items c.rest) (cut-append message_limit (incomplete []) sent bytes)
    ∙ cut_on tables (cut message_limit (incomplete []) sent).items (cut message_limit (incomplete []) sent).rest bytes

still_ended : (ended : Bool) → (if ended then true else false) ≡ ended
still_ended true = refl
still_ended false = refl

-- a line after an event that brings these bytes of it and doesn't end it
module _ (tables line : ℕ) (events : List AbstractEvent) (event : AbstractEvent) where
  goes_on : (bytes : List ℕ) → brings line event ≡ bytes → is_end_of line event ≡ false → line_after tables line (events ++ event ∷ []) ≡ line_beyond tables (line_after tables line events) bytes
  goes_on bytes are going =
      let sent : sent_by line (events ++ event ∷ []) ≡ sent_by line events ++ (if has_ended line events then [] else bytes) = sent_more line events event ∙ ap (λ more. sent_by line events ++ (if has_ended line events then [] else more)) are in
      let ended : has_ended line (events ++ event ∷ []) ≡ has_ended line events = ended_more line events event ∙ ap (λ last. if has_ended line events then true else last) going ∙ still_ended (has_ended line events) in
      ap (λ one. standing one (nat_lt line lines_in_all) tables (cut message_limit (incomplete []) (sent_by line (events ++ event ∷ [])))) ended
      ∙ ap (λ bytes. standing (has_ended line events) (nat_lt line lines_in_all) tables (cut message_limit (incomplete []) bytes)) sent
      ∙ sent_on (has_ended line events) (nat_lt line lines_in_all) tables (sent_by line events) bytes

  ends_now : is_end_of line event ≡ true → line_after tables line (events ++ event ∷ []) ≡ over
  ends_now last =
      let ended : has_ended line (events ++ event ∷ []) ≡ true = ended_more line events event ∙ ap (λ one. if has_ended line events then true else one) last ∙ both (has_ended line events) in
      ap (λ one. standing one (nat_lt line lines_in_all) tables (stream_of line (events ++ event ∷ []))) ended
    where
      both : (ended : Bool) → (if ended then true else true) ≡ true
      both true = refl
      both false = refl

-- no bytes change nothing
none_sent : (tables : ℕ) (rest : Rest) → cut message_limit rest [] ≡ record { items = []; rest = rest }
unfolding cut
none_sent tables rest = refl

after_nothing : (tables : ℕ) (one : HallLine) → line_beyond tables one [] ≡ one
after_nothing tables (silent rest) = ap (λ c. line_cut tables c.items c.rest) (none_sent tables rest)
after_nothing tables (asks table rest) = ap (λ c. asks table c.rest) (none_sent tables rest)
after_nothing tables over = refl

-- the line of an event, and another line
pub line_sends : (tables line at : ℕ) (bytes : List ℕ) (events : List AbstractEvent) → line_after tables line (events ++ piece line at bytes ∷ []) ≡ line_beyond tables (line_after tables line events) bytes
line_sends tables line at bytes events = goes_on tables line events (piece line at bytes) bytes (rw (eq-eqb line line refl) refl) refl

pub line_ends : (tables line at : ℕ) (events : List AbstractEvent) → line_after tables line (events ++ end_of_stream line at ∷ []) ≡ over
line_ends tables line at events = ends_now tables line events (end_of_stream line at) (rw (eq-eqb line line refl) refl)

pub line_stays : (tables line : ℕ) (events : List AbstractEvent) (event : AbstractEvent) → brings line event ≡ [] → is_end_of line event ≡ false → line_after tables line (events ++ event ∷ []) ≡ line_after tables line events
line_stays tables line events event nothing going = goes_on tables line events event [] nothing going ∙ after_nothing tables (line_after tables line events)

pub other_sends : (tables line other at : ℕ) (bytes : List ℕ) (events : List AbstractEvent) → other ≢ line → line_after tables line (events ++ piece other at bytes ∷ []) ≡ line_after tables line events
other_sends tables line other at bytes events differ = line_stays tables line events (piece other at bytes) (rw (ne_eqb other line differ) refl) refl

pub other_ends : (tables line other at : ℕ) (events : List AbstractEvent) → other ≢ line → line_after tables line (events ++ end_of_stream other at ∷ []) ≡ line_after tables line events
other_ends tables line other at events differ = line_stays tables line events (end_of_stream other at) refl (rw (ne_eqb other line differ) refl)

pub clock_ticks : (tables line at : ℕ) (events : List AbstractEvent) → line_after tables line (events ++ moment_alone at ∷ []) ≡ line_after tables line events
clock_ticks tables line at events = line_stays tables line events (moment_alone at) refl refl
