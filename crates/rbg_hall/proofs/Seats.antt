-- Who sits on a list of seats, and what a line is told there.
use Rattle.rbg_base.proofs.Common.{◌≡◌, ◌≢◌, ℕ, zero, suc, List, [], ◌∷◌, ◌++◌, refl, sym, ap, ◌∙◌, subst, arith, append-nil, Option, Some, None, replicate, set, get_or, inl, inr, none-some, slice_get, ◌⊎◌}
use Rattle.rbg_rules.specs.Meaning.{AbstractGame}
use Rattle.rbg_match.specs.declared.config.Config.{Config}
use Rattle.rbg_match.specs.PlayingOn.{seats_of}
use Rattle.rbg_hall.proofs.TableCommon.{LinesHaveOneSeat, TableState, TableRun, OwnEvent, Plays, Hears, waits, ticks, sits, begins, is_full, comes_late, stays, waits_too, stirs, is_early, plays, frees, goes, is_moment_for_none, is_unheard, goes_unheard, Telling, bytes_to, told_on, to_lines}
use Rattle.rbg_hall.specs.Tables as tables
use Rattle.rbg_hall.proofs.Places.{set_cases, same_or_other}
use Rattle.rbg_hall.proofs.Telling.{bytes_to-append, bytes_to-same, bytes_to-other}

-- the line sits nowhere
abbrev pub SitsNowhere : (line : ℕ) → List (Option ℕ) → Type 0
SitsNowhere line seats = (index : ℕ) → ¬ (slice_get seats index ≡ Some (Some line))

-- no line sits twice
abbrev pub SeatsDiffer : List (Option ℕ) → Type 0
SeatsDiffer seats = (line first second : ℕ) → slice_get seats first ≡ Some (Some line) → slice_get seats second ≡ Some (Some line) → first ≡ second

same_line : (one other : ℕ) → Some (Some one) ≡ Some (Some other) → one ≡ other
same_line one other is = cc

-- bytes for a seat on which the line doesn't sit, and for one on which it does
on_seat : (line : ℕ) (seat : Option ℕ) (bytes : List ℕ) → ¬ (Some seat ≡ Some (Some line)) → bytes_to line (told_on seat bytes) ≡ []
on_seat line None bytes nobody = refl
on_seat line (Some other) bytes nobody = bytes_to-other line other bytes (λ same. nobody (ap (λ one. Some (Some one)) same))

own_seat : (line : ℕ) (seat : Option ℕ) (bytes : List ℕ) → Some seat ≡ Some (Some line) → bytes_to line (told_on seat bytes) ≡ bytes
own_seat line None bytes there = absurd (none-some line (inside there))
  where
    inside : {x y : Option ℕ} → Some x ≡ Some y → x ≡ y
    inside is = cc
own_seat line (Some other) bytes there = subst (λ one. bytes_to one (told_on (Some other) bytes) ≡ bytes) (same_line other line there) (bytes_to-same other bytes)

pub none_on : (line : ℕ) (seats : List (Option ℕ)) (queues : List (List ℕ)) → SitsNowhere line seats → bytes_to line (to_lines seats queues) ≡ []
none_on line [] queues nowhere = refl
none_on line (seat ∷ seats) [] nowhere = refl
none_on line (seat ∷ seats) (bytes ∷ queues) nowhere =
    bytes_to-append line (told_on seat bytes) (to_lines seats queues)
    ∙ ap (λ first. first ++ bytes_to line (to_lines seats queues)) (on_seat line seat bytes (nowhere 0))
    ∙ none_on line seats queues (λ index. nowhere (suc index))

-- a line on a seat has the bytes for that seat
pub own_on : (line : ℕ) (seats : List (Option ℕ)) (queues : List (List ℕ)) (index : ℕ) → SeatsDiffer seats → slice_get seats index ≡ Some (Some line) → bytes_to line (to_lines seats queues) ≡ get_or queues index []
own_on line [] queues index differ there = absurd (none-some (Some line) there)
own_on line (seat ∷ seats) [] index differ there = refl
own_on line (seat ∷ seats) (bytes ∷ queues) zero differ there =
    bytes_to-append line (told_on seat bytes) (to_lines seats queues)
    ∙ ap (λ first. first ++ bytes_to line (to_lines seats queues)) (own_seat line seat bytes there)
    ∙ ap (λ rest. bytes ++ rest) (none_on line seats queues (λ index other. not_first (differ line 0 (suc index) there other)))
    ∙ append-nil bytes
  where
    not_first : {index : ℕ} → ¬ (0 ≡ suc index)
    not_first same = absurd (omega (arith, same))
own_on line (seat ∷ seats) (bytes ∷ queues) (suc index) differ there =
    bytes_to-append line (told_on seat bytes) (to_lines seats queues)
    ∙ ap (λ first. first ++ bytes_to line (to_lines seats queues)) (on_seat line seat bytes (λ here. not_first (differ line 0 (suc index) here there)))
    ∙ own_on line seats queues index (λ one first second at at'. earlier (differ one (suc first) (suc second) at at')) there
  where
    not_first : ¬ (0 ≡ suc index)
    not_first same = absurd (omega (arith, same))

    earlier : {first second : ℕ} → suc first ≡ suc second → first ≡ second
    earlier same = omega (arith, same)

further : (line : ℕ) (seat : Option ℕ) (seats : List (Option ℕ)) → ¬ (Some seat ≡ Some (Some line)) → ((index : ℕ) × (slice_get seats index ≡ Some (Some line))) ⊎ SitsNowhere line seats → ((index : ℕ) × (slice_get (seat ∷ seats) index ≡ Some (Some line))) ⊎ SitsNowhere line (seat ∷ seats)
further line seat seats away (inl there) = inl (suc there.0, there.1)
further line seat seats away (inr nowhere) = inr none
  where
    none : SitsNowhere line (seat ∷ seats)
    none zero there = away there
    none (suc index) there = nowhere index there

-- a line sits, or it doesn't
pub seat_or_none : (line : ℕ) (seats : List (Option ℕ)) → ((index : ℕ) × (slice_get seats index ≡ Some (Some line))) ⊎ SitsNowhere line seats
seat_or_none line [] = inr (λ index there. none-some (Some line) there)
seat_or_none line (None ∷ seats) = further line None seats (λ is. none-some line (inside is)) (seat_or_none line seats)
  where
    inside : {x y : Option ℕ} → Some x ≡ Some y → x ≡ y
    inside is = cc
seat_or_none line (Some other ∷ seats) = elim (same_or_other other line) [
  | inl same ↦ inl (0, ap (λ one. Some (Some one)) same)
  | inr differ ↦ further line (Some other) seats (λ is. differ (same_line other line is)) (seat_or_none line seats)
]

-- taking a seat, and leaving it
pub seat_taken : (line other : ℕ) (seats : List (Option ℕ)) (place : ℕ) → other ≢ line → SitsNowhere line seats → SitsNowhere line (set seats place (Some other))
seat_taken line other seats place differ nowhere index there = elim (set_cases seats place index (Some other) (Some line) there) [
  | inl here ↦ differ (same here.1)
  | inr away ↦ nowhere index away.1
]
  where
    same : Some line ≡ Some other → other ≡ line
    same is = cc

pub seat_freed : (line : ℕ) (seats : List (Option ℕ)) (place : ℕ) → SitsNowhere line seats → SitsNowhere line (set seats place None)
seat_freed line seats place nowhere index there = elim (set_cases seats place index None (Some line) there) [
  | inl here ↦ none-some line (sym here.1)
  | inr away ↦ nowhere index away.1
]

pub empty_seats : (line n : ℕ) → SitsNowhere line (replicate n None)
empty_seats line zero index there = none-some (Some line) there
empty_seats line (suc n) zero there = none-some line (free there)
  where
    free : Some None ≡ Some (Some line) → None ≡ Some line
    free is = cc
empty_seats line (suc n) (suc index) there = empty_seats line n index there

pub differ_taken : (seats : List (Option ℕ)) (place line : ℕ) → SeatsDiffer seats → SitsNowhere line seats → SeatsDiffer (set seats place (Some line))
differ_taken seats place line differ nowhere one first second there there' = elim (set_cases seats place first (Some line) (Some one) there) [
  | inl here ↦ elim (set_cases seats place second (Some line) (Some one) there') [
    | inl here' ↦ here.0 ∙ sym here'.0
    | inr away' ↦ absurd (nowhere second (away'.1 ∙ ap Some here.1))
  ]
  | inr away ↦ elim (set_cases seats place second (Some line) (Some one) there') [
    | inl here' ↦ absurd (nowhere first (away.1 ∙ ap Some here'.1))
    | inr away' ↦ differ one first second away.1 away'.1
  ]
]

differ_freed : (seats : List (Option ℕ)) (place : ℕ) → SeatsDiffer seats → SeatsDiffer (set seats place None)
differ_freed seats place differ one first second there there' = elim (set_cases seats place first None (Some one) there) [
  | inl here ↦ absurd (none-some one (sym here.1))
  | inr away ↦ elim (set_cases seats place second None (Some one) there') [
    | inl here' ↦ absurd (none-some one (sym here'.1))
    | inr away' ↦ differ one first second away.1 away'.1
  ]
]

played : {old new : TableState} {told : List Telling} {event : _} → Plays old event new told → SeatsDiffer old.seats → SeatsDiffer new.seats
played play differ = subst (λ (one : TableState). SeatsDiffer one.seats) (sym play.is) differ

pub one_differ : {old new : TableState} {event : OwnEvent} {told : List Telling} → Hears old event new told → SeatsDiffer old.seats → SeatsDiffer new.seats
one_differ (waits none) differ = differ
one_differ (ticks play) differ = played play differ
one_differ {old} (sits {line} index last none nowhere first free) differ = differ_taken old.seats index line differ nowhere
one_differ {old} (begins {line} index none nowhere first taken opens) differ = differ_taken old.seats index line differ nowhere
one_differ (is_full nowhere taken) differ = differ
one_differ (comes_late nowhere begun) differ = differ
one_differ (stays seat) differ = differ
one_differ (waits_too none) differ = differ
one_differ (stirs index seat play) differ = played play differ
one_differ (is_early index seat none) differ = differ
one_differ (plays index seat play) differ = played play differ
one_differ {old} (frees index seat none) differ = differ_freed old.seats index differ
one_differ (goes index seat play) differ = played play differ
one_differ (is_moment_for_none none) differ = differ
one_differ (is_unheard none) differ = differ
one_differ (goes_unheard none) differ = differ

pub no_seats : (n : ℕ) → SeatsDiffer (replicate n None)
no_seats n line first second there there' = absurd (empty_seats line n first there)

pub all_differ : {game : AbstractGame} {text : List ℕ} {config : Config} {events : List OwnEvent} {state : TableState} {told : List Telling} → TableRun game text config events state told → SeatsDiffer state.seats
all_differ {game = game} tables.none = no_seats (seats_of game)
all_differ (tables.more run hears) = one_differ hears (all_differ run)

pub lines_have_one_seat : LinesHaveOneSeat
lines_have_one_seat game text config events told hall line first second there there' = all_differ hall.runs line first second there there'
