-- Lists of lines that are followed so far, or whole, or up to a line that stops.
use Rattle.rbg_base.proofs.Common.{◌≡◌, ◌<◌, ◌≤◌, ◌+◌, ℕ, List, [], ◌∷◌, ◌++◌, length, Bool, true, false, Option, inl, inr, subst, sym, refl, ap, ◌∙◌, arith, All-push}
use Rattle.std.proofs.lemmas.List.{append_assoc, flat_map_more, length-append, length_push, append-nil}
use Rattle.rbg_rules.specs.Meaning.{AbstractGame}
use Rattle.rbg_wire.proofs.Common.{LacksByte, line_feed, line_of, lines_of}
use Rattle.rbg_wire.specs.declared.outcome.Outcome.{Outcome}
use Rattle.rbg_view.specs.declared.scene.Scene.{Scene}
use Rattle.rbg_view.specs.declared.shown_moves.Showing.{Showing}
use Rattle.rbg_view.specs.declared.shown_moves.ShownMoves.{ShownMoves}
use Rattle.rbg_view.specs.declared.stop.Stop.{Stop}
use Rattle.rbg_view.specs.Endings.{EndsWith, ended_text, stopped_text, unsettled_text}
use Rattle.rbg_view.specs.Following.{AreLinesOf, FollowsList, IsBare, IsLineEnd, Standing, Stops, StopsAtEnd, StopsAtLine, StopsAfter, StopsLine, first_standing, outcome_of}
use Rattle.rbg_view.specs.Following.EndsWell.{settled, at_limit}
use Rattle.rbg_view.specs.Following.FollowsLines.{none, more}
use Rattle.rbg_moves.specs.Playing.{Playing}
use Rattle.rbg_view.specs.Showing.{IsShown}
use Rattle.rbg_view.specs.Showing.IsShown.{whole, at_line, at_end}
use Rattle.rbg_view.specs.Moving.{Settles}
use Rattle.rbg_view.specs.internal.Standing.{FollowsLine, IsFollowedSoFar, TellsEnd, TellsLimit, TellsLine, TellsList, standing_of}

-- a line more, with its line feed
text_more : (before : List (List ℕ)) (line beyond : List ℕ) → lines_of (before ++ line ∷ []) ++ beyond ≡ lines_of before ++ (line ++ line_feed ∷ beyond)
text_more before line beyond =
    ap (λ (x : List ℕ). x ++ beyond) (sym (flat_map_more line_of [] before line))
    ∙ append_assoc (lines_of before) (line_of line) beyond
    ∙ ap (λ (x : List ℕ). lines_of before ++ x) (append_assoc line (line_feed ∷ []) beyond)

-- what is after a line is shorter than what begins with it
pub shorter : (rest line beyond : List ℕ) → rest ≡ line ++ line_feed ∷ beyond → length beyond < length rest
shorter rest line beyond is = omega (arith, ap length is, length-append line (line_feed ∷ beyond))

pub number_fits : (number : ℕ) (rest line beyond list : List ℕ) → number + length rest ≤ length list + 1 → rest ≡ line ++ line_feed ∷ beyond → number ≤ length list
number_fits number rest line beyond list room is = let longer : length beyond < length rest = shorter rest line beyond is in omega arith

-- before the first line
pub followed_none : (from : Standing) (list : List ℕ) → IsFollowedSoFar from list list 1 from
followed_none from list = record {
  before = [];
  text = refl;
  cut = λ k d within. absurd (omega arith);
  counted = refl;
  room = omega arith;
  follows = none;
}

-- one line more
pub followed_more : (from at to : Standing) (list rest line beyond : List ℕ) (number : ℕ) → IsFollowedSoFar from list rest number at → (rest ≡ line ++ line_feed ∷ beyond) × LacksByte line_feed line → FollowsLine line at to → IsFollowedSoFar from list beyond (number + 1) to
followed_more from at to list rest line beyond number so_far cut told =
    let longer : length beyond < length rest = shorter rest line beyond cut.0 in
    let room : number + length rest ≤ length list + 1 = so_far.room in
    record {
      before = so_far.before ++ line ∷ [];
      text = so_far.text ∙ ap (λ (x : List ℕ). lines_of so_far.before ++ x) cut.0 ∙ sym (text_more so_far.before line beyond);
      cut = All-push (LacksByte line_feed) so_far.before line so_far.cut cut.1;
      counted = ap (λ n. n + 1) (so_far.counted ∙ sym (length_push so_far.before line));
      room = omega arith;
      follows = more so_far.follows told.is_bare told.follows;
    }

-- the line that stops
pub stops_at : (from at to : Standing) (list rest line beyond : List ℕ) (number : ℕ) → IsFollowedSoFar from list rest number at → rest ≡ line ++ beyond → IsLineEnd beyond → LacksByte line_feed line → (stop : Stop) → StopsLine line at stop to → StopsAtLine from list number stop to.playing
stops_at from at to list rest line beyond number so_far cut ended lacks stop told = record {
  before = so_far.before;
  line = line;
  beyond = beyond;
  text = so_far.text ∙ ap (λ (x : List ℕ). lines_of so_far.before ++ x) cut;
  ended = ended;
  cut = All-push (LacksByte line_feed) so_far.before line so_far.cut lacks;
  counted = so_far.counted;
  middle = at;
  follows = so_far.follows;
  at = to;
  stops = told;
  is = refl;
}

-- a line that stops before others, and at the end of the list
pub list_stops : (from at : Standing) (new : Showing) (list rest line beyond : List ℕ) (number : ℕ) → IsFollowedSoFar from list rest number at → (rest ≡ line ++ line_feed ∷ beyond) × LacksByte line_feed line → TellsLine line number at new false → TellsList list from new.scene false
list_stops from at new list rest line beyond number so_far cut told =
    inl (record {
      number = number;
      stop = told.0;
      stops = stops_at from at (standing_of new) list rest line (line_feed ∷ beyond) number so_far cut.0 (inr (beyond, refl)) cut.1 told.0 told.1;
      told = told.2;
    })

pub last_stops : (from at : Standing) (new : Showing) (list rest : List ℕ) (number : ℕ) → IsFollowedSoFar from list rest number at → LacksByte line_feed rest → TellsLine rest number at new false → TellsList list from new.scene false
last_stops from at new list rest number so_far lacks told =
    inl (record {
      number = number;
      stop = told.0;
      stops = stops_at from at (standing_of new) list rest rest [] number so_far (sym (append-nil rest)) (inl refl) lacks told.0 told.1;
      told = told.2;
    })

-- all lines
lines_whole : (from at : Standing) (list rest : List ℕ) (number : ℕ) (so_far : IsFollowedSoFar from list rest number at) → LacksByte line_feed rest → AreLinesOf list (so_far.before ++ rest ∷ [])
lines_whole from at list rest number so_far lacks = record {
  before = so_far.before;
  last = rest;
  are = refl;
  text = so_far.text;
  cut = All-push (LacksByte line_feed) so_far.before rest so_far.cut lacks;
}

-- all lines, and what comes after them
pub list_told : (from at middle : Standing) (new : Scene) (list rest : List ℕ) (number : ℕ) → IsFollowedSoFar from list rest number at → LacksByte line_feed rest → FollowsLine rest at middle → (is_whole : Bool) → TellsEnd middle new is_whole → TellsList list from new is_whole
list_told from at middle new list rest number so_far lacks told true ends = (
  ends.0,
  record {
    lines = so_far.before ++ rest ∷ [];
    are = lines_whole from at list rest number so_far lacks;
    at = middle;
    follows = more so_far.follows told.is_bare told.follows;
    ends = ends.1;
  },
  ends.2,
)
list_told from at middle new list rest number so_far lacks told false stops =
    inr (record {
      stop = stops.0;
      stops = record {
        lines = so_far.before ++ rest ∷ [];
        are = lines_whole from at list rest number so_far lacks;
        at = middle;
        follows = more so_far.follows told.is_bare told.follows;
        stops = stops.1;
        untold = stops.2;
      };
      told = stops.3;
    })

-- a line that stops, where only the text was written on
pub line_stopped : (line bare : List ℕ) (number : ℕ) (from : Standing) (stop : Stop) (middle : Showing) (scene : Scene) → IsBare line bare → Stops bare from stop (standing_of middle) → scene.play ≡ middle.scene.play → EndsWith scene.sheet.text.items (stopped_text middle.scene.play number stop) → TellsLine line number from (record middle { scene = scene }) false
line_stopped line bare number from stop middle scene is_bare stops same told = (
  stop,
  record {
    bare = bare;
    is_bare = is_bare;
    stops = subst (λ (p : Playing). Stops bare from stop (record { playing = p; lead = middle.lead; end = middle.end })) (sym same) stops;
  },
  subst (λ (p : Playing). EndsWith scene.sheet.text.items (stopped_text p number stop)) (sym same) told,
)

-- what is shown at last
pub list_shown : (game : AbstractGame) (list : List ℕ) (from : Standing) (new : Scene) (shown : ShownMoves) → from ≡ first_standing game → (is_whole : Bool) → TellsList list from new is_whole → shown.is_whole ≡ is_whole → shown.text.items ≡ new.sheet.text.items → IsShown game list shown
list_shown game list from new shown same true told is text =
    whole new.play told.0
    (subst (λ (s : Standing). FollowsList s list new.play told.0) same told.1) is
    (subst (λ (t : List ℕ). EndsWith t told.0) (sym text) told.2)
list_shown game list from new shown same false (inl stop) is text =
    at_line stop.number stop.stop new.play
    (subst (λ (s : Standing). StopsAtLine s list stop.number stop.stop new.play) same stop.stops) is
    (subst (λ (t : List ℕ). EndsWith t (stopped_text new.play stop.number stop.stop)) (sym text) stop.told)
list_shown game list from new shown same false (inr stop) is text =
    at_end stop.stop new.play
    (subst (λ (s : Standing). StopsAtEnd s list stop.stop new.play) same stop.stops) is
    (subst (λ (t : List ℕ). EndsWith t (unsettled_text stop.stop)) (sym text) stop.told)

-- after the last line
pub end_settled : (from : Standing) (to : Playing) (new : Scene) (goes_on : Bool) (outcome : Option Outcome) → Settles from.playing to goes_on → outcome ≡ outcome_of from.end → new.play ≡ to → EndsWith new.sheet.text.items (ended_text to outcome goes_on) → TellsEnd from new true
end_settled from to new goes_on outcome settles is same told = (
  ended_text new.play (outcome_of from.end) goes_on,
  settled {to = new.play} goes_on (subst (λ (p : Playing). Settles from.playing p goes_on) (sym same) settles),
  subst (λ (p : Playing). EndsWith new.sheet.text.items (ended_text p (outcome_of from.end) goes_on)) (sym same)
      (subst (λ (o : Option Outcome). EndsWith new.sheet.text.items (ended_text to o goes_on)) is told),
)

-- after the last line, where the game can't be led on
pub end_unsettled : (from : Standing) (to : Playing) (new : Scene) (stop : Stop) (outcome : Option Outcome) → StopsAfter from.playing stop to → outcome ≡ outcome_of from.end → new.play ≡ to → (at_limit : Bool) → TellsLimit to outcome (unsettled_text stop) new.sheet.text.items at_limit → TellsEnd from new at_limit
end_unsettled from to new stop outcome stops is same true told = (
  ended_text new.play (outcome_of from.end) true,
  at_limit {to = new.play} {stop = stop} (sym is ∙ told.0) (subst (λ (p : Playing). StopsAfter from.playing stop p) (sym same) stops),
  subst (λ (p : Playing). EndsWith new.sheet.text.items (ended_text p (outcome_of from.end) true)) (sym same)
      (subst (λ (o : Option Outcome). EndsWith new.sheet.text.items (ended_text to o true)) is told.1),
)
end_unsettled from to new stop outcome stops is same false told = (
  stop,
  subst (λ (p : Playing). StopsAfter from.playing stop p) (sym same) stops,
  (λ limit. told.0 (is ∙ limit)),
  told.1,
)
