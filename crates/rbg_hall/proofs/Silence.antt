-- A table tells nothing to a line of which it heard nothing.
use Rattle.std.proofs.Common.{◌≡◌, ◌≢◌, ℕ, List, [], ◌∷◌, ◌++◌, false, refl, sym, ap, ◌∙◌, subst, Some, set, ◌==◌}
use Rattle.std.proofs.lemmas.Bool.{true≢false, eq-eqb}
use Rattle.rbg_rules.specs.Meaning.{AbstractGame}
use Rattle.rbg_match.specs.declared.config.Config.{Config}
use Rattle.rbg_match.specs.PlayingOn.{seats_of}
use Rattle.rbg_hall.proofs.TableCommon.{TableState, TableRun, OwnEvent, Plays, Hears, waits, ticks, sits, begins, is_full, comes_late, stays, waits_too, stirs, is_early, plays, frees, goes, is_moment_for_none, is_unheard, goes_unheard, Telling, bytes_to}
use Rattle.rbg_hall.specs.Tables as tables
use Rattle.rbg_hall.proofs.Seats.{SitsNowhere, empty_seats, none_on, seat_freed, seat_taken}
use Rattle.rbg_hall.proofs.Telling.{bytes_to-append, bytes_to-other}
use Rattle.rbg_hall.proofs.Owning.{is_of, Lacks, lacks_first, lacks_next}

differs : (other line : ℕ) → (other == line) ≡ false → other ≢ line
differs other line test same = true≢false (sym (eq-eqb other line same) ∙ test)

-- the line still sits nowhere, and is told nothing
abbrev pub Unmoved : (line : ℕ) → TableState → List Telling → Type 0
Unmoved line state told = SitsNowhere line state.seats × (bytes_to line told ≡ [])

played : {line : ℕ} {old new : TableState} {told : List Telling} {event : _} → Plays old event new told → SitsNowhere line old.seats → Unmoved line new told
played {line} {old} {new} {told} play nowhere = (
  subst (λ (one : TableState). SitsNowhere line one.seats) (sym play.is) nowhere,
  ap (bytes_to line) play.to ∙ none_on line old.seats play.queues nowhere,
)

one_unmoved : {line : ℕ} {old new : TableState} {event : OwnEvent} {told : List Telling} → Hears old event new told → is_of line event ≡ false → SitsNowhere line old.seats → Unmoved line new told
one_unmoved (waits none) other nowhere = (nowhere, refl)
one_unmoved (ticks play) other nowhere = played play nowhere
one_unmoved {line} {old} (sits {line = joined} index last none nobody first free) other nowhere = (seat_taken line joined old.seats index (differs joined line other) nowhere, refl)
one_unmoved {line} {old} (begins {line = joined} {queues = queues} index none nobody first taken opens) other nowhere =
    let still = seat_taken line joined old.seats index (differs joined line other) nowhere in
    (still, none_on line (set old.seats index (Some joined)) queues still)
one_unmoved {line} (is_full {line = joined} nobody taken) other nowhere = (nowhere, bytes_to-other line joined _ (differs joined line other))
one_unmoved {line} (comes_late {line = joined} nobody begun) other nowhere = (nowhere, bytes_to-other line joined _ (differs joined line other))
one_unmoved (stays seat) other nowhere = (nowhere, refl)
one_unmoved (waits_too none) other nowhere = (nowhere, refl)
one_unmoved (stirs index seat play) other nowhere = played play nowhere
one_unmoved {line} (is_early {line = speaker} index seat none) other nowhere = (nowhere, bytes_to-other line speaker _ (differs speaker line other))
one_unmoved (plays index seat play) other nowhere = played play nowhere
one_unmoved {line} {old} (frees index seat none) other nowhere = (seat_freed line old.seats index nowhere, refl)
one_unmoved (goes index seat play) other nowhere = played play nowhere
one_unmoved (is_moment_for_none none) other nowhere = (nowhere, refl)
one_unmoved (is_unheard none) other nowhere = (nowhere, refl)
one_unmoved (goes_unheard none) other nowhere = (nowhere, refl)

pub all_unmoved : {game : AbstractGame} {text : List ℕ} {config : Config} {events : List OwnEvent} {state : TableState} {told : List Telling} (line : ℕ) → TableRun game text config events state told → Lacks line events → Unmoved line state told
all_unmoved {game = game} line tables.none lacks = (empty_seats line (seats_of game), refl)
all_unmoved line (tables.more {events} {event} {first = first} {next = next} run hears) lacks =
    let before = all_unmoved line run (lacks_first line events (event ∷ []) lacks) in
    let now = one_unmoved hears (lacks_next line events (event ∷ []) lacks).0 before.0 in
    (now.0, bytes_to-append line first next ∙ ap (λ one. one ++ bytes_to line next) before.1 ∙ now.1)

-- A table tells nothing to a line of which it heard nothing.
pub unheard_untold : {game : AbstractGame} {text : List ℕ} {config : Config} {events : List OwnEvent} {state : TableState} {told : List Telling} (line : ℕ) → TableRun game text config events state told → Lacks line events → bytes_to line told ≡ []
unheard_untold line run lacks = (all_unmoved line run lacks).1
