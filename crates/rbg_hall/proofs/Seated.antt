-- A table's match begins and plays.
use Rattle.std.proofs.Common.{◌≡◌, ℕ, List, [], replicate, Option, Some, None, Result, Ok, Err, true, false, ◌+◌, set, refl, sym, ap, ◌∙◌, subst, slice_get, is_none, OnOk}
use Rattle.rbg_match.proofs.Common.{MatchState, Steps, seats_of, message_limit}
use Rattle.rbg_script.specs.Events.{AbstractEvent, moment_alone, piece, end_of_stream}
use Rattle.rbg_rules.specs.Meaning.{AbstractGame}
use Rattle.std.proofs.lemmas.Bool.{true≢false}
use Rattle.rbg_wire.specs.declared.message.Reason.TheVariants.{OutOfTurn, NoSeat}
use Rattle.rbg_wire.proofs.Common.{Item, whole_item}
use Rattle.rbg_hall.proofs.TableCommon.{TableState, Hears, clock, joins, arrives, says, leaves, waits, ticks, sits, is_full, comes_late, stays, waits_too, stirs, is_early, frees, goes, is_moment_for_none, is_unheard, goes_unheard, SitsAt, HasNoSeat, AreTaken, refusal_to, to_lines, told_to, PlaysFor, BeginsFor, IsFirstAt, HearsFor, StepsFor}
use Rattle.rbg_hall.specs.Tables as tables
use Rattle.rbg_hall.specs.internal.TableHearing as hearing
use Rattle.rbg_hall.proofs.Telling.{told_to-none}

-- a table whose match has begun lets it handle an event
pub plays_for : (old new : TableState) (playing after : MatchState) (event : AbstractEvent) (before queues : List (List ℕ)) → old.begun ≡ Some playing → old.game ≡ playing.game → StepsFor playing event after old.seats before queues → new ≡ record old { begun = Some after } → PlaysFor old event new before queues
plays_for old new playing after event before queues begun game step is =
    hearing.plays (to_lines old.seats step.queues)
    (record {
      before = playing;
      after = after;
      queues = step.queues;
      begun = begun;
      steps = subst (λ (one : AbstractGame). Steps playing event after (replicate (seats_of one) []) step.queues) (sym game) step.steps;
      is = is;
      to = refl;
    })
    step.queued

-- the clock is heard by a match that has begun
pub clock_heard : {old new : TableState} {at : ℕ} {before queues : List (List ℕ)} → PlaysFor old (moment_alone at) new before queues → HearsFor old (clock at) new before queues
clock_heard {before = before} (hearing.nothing none) = record { told = []; hears = waits none; queued = sym (told_to-none before) }
clock_heard (hearing.plays told play queued) = record { told = told; hears = ticks play; queued = queued }

-- so is what a line with a seat sends
pub piece_heard : {old new : TableState} {at : ℕ} {before queues : List (List ℕ)} (line index : ℕ) → SitsAt old line index → PlaysFor old (moment_alone at) new before queues → HearsFor old (arrives line at) new before queues
piece_heard {before = before} line index seat (hearing.nothing none) = record { told = []; hears = waits_too none; queued = sym (told_to-none before) }
piece_heard line index seat (hearing.plays told play queued) = record { told = told; hears = stirs index seat play; queued = queued }

pub ok_so : {T E P Q : Type 0} (result : Result T E) → OnOk result P → (P → Q) → OnOk result Q
ok_so (Ok value) holds turn = turn holds
ok_so (Err error) holds turn = tt

pub none_by : (begun : Option MatchState) → is_none begun ≡ true → begun ≡ None
none_by None test = refl
none_by (Some playing) test = absurd (true≢false (sym test))

-- a line that asks for a seat too late, or where all are taken
pub late : (table : TableState) (line at : ℕ) (before after : List (List ℕ)) → HasNoSeat table line → is_none table.begun ≡ false → after ≡ told_to before (refusal_to line NoSeat) → HearsFor table (joins line at) table before after
late table line at before after nowhere begun queued = by_begun table.begun refl begun
  where
    by_begun : (one : Option MatchState) → table.begun ≡ one → is_none one ≡ false → HearsFor table (joins line at) table before after
    by_begun None is test = absurd (true≢false test)
    by_begun (Some playing) is test = record { told = refusal_to line NoSeat; hears = comes_late nowhere is; queued = queued }

pub full : (table : TableState) (line at : ℕ) (before after : List (List ℕ)) → HasNoSeat table line → AreTaken table.seats → after ≡ told_to before (refusal_to line NoSeat) → HearsFor table (joins line at) table before after
full table line at before after nowhere taken queued = record { told = refusal_to line NoSeat; hears = is_full nowhere taken; queued = queued }

-- a line that has a seat asks for one
pub stayed : (table : TableState) (line at index : ℕ) (queues : List (List ℕ)) → SitsAt table line index → HearsFor table (joins line at) table queues queues
stayed table line at index queues seat = record { told = []; hears = stays (record { index = index; sits = seat }); queued = sym (told_to-none queues) }

-- a line that sits down, where a seat is left and where none is
pub sat : (old new : TableState) (index other line at : ℕ) (queues : List (List ℕ)) → old.begun ≡ None → HasNoSeat old line → IsFirstAt old.seats None index → new ≡ record old { seats = set old.seats index (Some line) } → slice_get new.seats other ≡ Some None → HearsFor old (joins line at) new queues queues
sat old new index other line at queues idle nowhere first is free = record {
  told = [];
  hears = subst (λ (one : TableState). Hears old (joins line at) one []) (sym is)
      (sits index other idle nowhere (record { free = first.there; first = first.first }) (subst (λ (one : TableState). slice_get one.seats other ≡ Some None) is free));
  queued = sym (told_to-none queues);
}

pub begun_by : (old middle new : TableState) (index line at : ℕ) (before after : List (List ℕ)) → old.begun ≡ None → HasNoSeat old line → IsFirstAt old.seats None index → middle ≡ record old { seats = set old.seats index (Some line) } → AreTaken middle.seats → BeginsFor middle at new before after → HearsFor old (joins line at) new before after
begun_by old middle new index line at before after idle nowhere first is taken begins =
    let same : BeginsFor (record old { seats = set old.seats index (Some line) }) at new before after = subst (λ (one : TableState). BeginsFor one at new before after) is begins in
    let all : AreTaken (set old.seats index (Some line)) = subst (λ (one : TableState). AreTaken one.seats) is taken in
    record {
      told = to_lines (set old.seats index (Some line)) same.queues;
      hears = subst (λ (one : TableState). Hears old (joins line at) one (to_lines (set old.seats index (Some line)) same.queues)) (sym same.is)
          (tables.begins index idle nowhere (record { free = first.there; first = first.first }) all same.opens);
      queued = same.queued;
    }

-- a line that says something before the match begins, and afterwards
pub early : (table : TableState) (line at index : ℕ) (item : Item) (before after : List (List ℕ)) → is_none table.begun ≡ true → SitsAt table line index → after ≡ told_to before (refusal_to line OutOfTurn) → HearsFor table (says line at item) table before after
early table line at index item before after idle seat queued = record { told = refusal_to line OutOfTurn; hears = is_early index seat (none_by table.begun idle); queued = queued }

pub outgoing : (old new : TableState) (line at index : ℕ) (item : Item) (before after : List (List ℕ)) → is_none old.begun ≡ false → SitsAt old line index → PlaysFor old (piece (index + 1) at (whole_item message_limit item)) new before after → HearsFor old (says line at item) new before after
outgoing old new line at index item before after begun seat (hearing.nothing none) = absurd (true≢false (ap is_none (sym none) ∙ begun))
outgoing old new line at index item before after begun seat (hearing.plays told play queued) = record {
  told = told;
  hears = tables.plays index seat play;
  queued = queued;
}

-- a line that leaves before the match begins, and afterwards
pub freed : (old new : TableState) (line at index : ℕ) (queues : List (List ℕ)) → is_none old.begun ≡ true → SitsAt old line index → new ≡ record old { seats = set old.seats index None } → HearsFor old (leaves line at) new queues queues
freed old new line at index queues idle seat is = record {
  told = [];
  hears = subst (λ (one : TableState). Hears old (leaves line at) one []) (sym is) (frees index seat (none_by old.begun idle));
  queued = sym (told_to-none queues);
}

pub gone_by : (old new : TableState) (line at index : ℕ) (before after : List (List ℕ)) → is_none old.begun ≡ false → SitsAt old line index → PlaysFor old (end_of_stream (index + 1) at) new before after → HearsFor old (leaves line at) new before after
gone_by old new line at index before after begun seat (hearing.nothing none) = absurd (true≢false (ap is_none (sym none) ∙ begun))
gone_by old new line at index before after begun seat (hearing.plays told play queued) = record { told = told; hears = goes index seat play; queued = queued }

-- a line without a seat
pub unheard_piece : (table : TableState) (line at : ℕ) (queues : List (List ℕ)) → HasNoSeat table line → HearsFor table (arrives line at) table queues queues
unheard_piece table line at queues none = record { told = []; hears = is_moment_for_none none; queued = sym (told_to-none queues) }

pub unheard_item : (table : TableState) (line at : ℕ) (item : Item) (queues : List (List ℕ)) → HasNoSeat table line → HearsFor table (says line at item) table queues queues
unheard_item table line at item queues none = record { told = []; hears = is_unheard none; queued = sym (told_to-none queues) }

pub unheard_end : (table : TableState) (line at : ℕ) (queues : List (List ℕ)) → HasNoSeat table line → HearsFor table (leaves line at) table queues queues
unheard_end table line at queues none = record { told = []; hears = goes_unheard none; queued = sym (told_to-none queues) }
