-- What the match of a log's script sends is what the lines on the seats are told.
use Rattle.rbg_base.proofs.Common.{◌≡◌, ℕ, ◌+◌, ◌<◌, ◌^◌, List, [], ◌∷◌, ◌++◌, All, length, get_or, replicate, Option, Some, None, is_none, refl, sym, ap, ◌∙◌, subst, append-nil, append_assoc, slice_get, none-some}
use Rattle.std.proofs.lemmas.List.{length-replicate, length-set}
use Rattle.rbg_game.specs.Loading.{Loads}
use Rattle.rbg_wire.specs.declared.message.Reason.TheVariants.{NoSeat}
use Rattle.rbg_wire.specs.Messages.{refusal_message, spelling}
use Rattle.rbg_rules.specs.Meaning.{AbstractGame}
use Rattle.rbg_match.specs.declared.config.Config.{Config}
use Rattle.rbg_match.proofs.Common.{bytes_for, delivered, MatchState, Opens, Steps, seats_of}
use Rattle.rbg_match.proofs.Delivering.{length-delivered}
use Rattle.rbg_match.proofs.WholeMatch.{seats_of_opened}
use Rattle.rbg_script.specs.Events.{EventHasSpelling, AbstractEvent}
use Rattle.rbg_hall.proofs.TableCommon.{Beginning, Hands, HoldsTranscript, TakesLast, TableState, TableRun, OwnEvent, joins, Plays, Hears, SitsAt, HasNoSeat, Telling, bytes_to, telling, to_lines}
use Rattle.rbg_hall.specs.TableLaws as laws
use Rattle.rbg_hall.specs.Tables as tables
use Rattle.rbg_hall.proofs.Alike.{same_early}
use Rattle.rbg_hall.proofs.Holding.{delivered_at, from_nothing, run_holds_transcript, seen_later, step_on}
use Rattle.rbg_hall.proofs.Places.{there_within}
use Rattle.rbg_hall.proofs.Seats.{SeatsDiffer, all_differ, differ_taken, own_on}
use Rattle.rbg_hall.proofs.Telling.{bytes_to-append, bytes_to-other}
use Rattle.rbg_serving.specs.Logs.{Appends, IsLog, event_lines, first_line}
use Rattle.rbg_serving.specs.Written.{written}
use Rattle.rbg_serving.proofs.Logging.{log_begins, log_on}
use Rattle.rbg_hall.specs.declared.standing.Standing.{Standing}
use Rattle.rbg_hall.specs.declared.standing.Standing.TheVariants.{Works, LogFailed, OutOfMemory}
use Rattle.rbg_hall.specs.Kept.{Changes, IsWritten, KeptState, given, told_log, with_log, without}
use Rattle.rbg_hall.specs.LogLaws.{KeptRun, LogSendsWhatIsTold}
use Rattle.rbg_hall.specs.LogLaws as runs
use Rattle.rbg_hall.specs.LogLedgers.{first_for, heard_at, written_for}
use Rattle.rbg_hall.proofs.Keeping.{noted_none, noted_one, noted_waiting}

-- What an event is to a table and its match.
--   idles, moves: the match waits, and perhaps the seats change.
--   starts: a line takes the last seat.
--   passes: the match, if it has begun, is handed nothing, and nobody on a seat is told anything.
--   plays: the match handles what it is handed.
data Turns (old : TableState) : OwnEvent → (new : TableState) → (outgoing : List Telling) → Type 0 where
  idles : {event : OwnEvent} {outgoing : List Telling} →
      old.begun ≡ None →
      Turns old event old outgoing
  moves : {event : OwnEvent} {outgoing : List Telling} →
      (seats : List (Option ℕ)) →
      old.begun ≡ None →
      length seats ≡ length old.seats →
      Turns old event (record old { seats = seats }) outgoing
  starts : {line at : ℕ} {seats : List (Option ℕ)} {opened : MatchState} {queues : List (List ℕ)} →
      old.begun ≡ None →
      TakesLast old line seats →
      Opens old.game old.text old.config at opened queues →
      Turns old (joins line at) (record old { seats = seats; begun = Some opened }) (to_lines seats queues)
  passes : {event : OwnEvent} {outgoing : List Telling} →
      Hands old.seats event [] →
      ((index line : ℕ) → SitsAt old line index → bytes_to line outgoing ≡ []) →
      Turns old event old outgoing
  plays : {event : OwnEvent} {new : TableState} {outgoing : List Telling} →
      (one : AbstractEvent) →
      Hands old.seats event (one ∷ []) →
      Plays old one new outgoing →
      Turns old event new outgoing

-- a line without a seat is told something
away : (table : TableState) (line : ℕ) (bytes : List ℕ) → HasNoSeat table line → (index one : ℕ) → SitsAt table one index → bytes_to one (telling line bytes) ≡ []
away table line bytes nowhere index one there = bytes_to-other one line bytes (λ same. nowhere index (there ∙ ap (λ (n : ℕ). Some (Some n)) (sym same)))

turns : {old new : TableState} {event : OwnEvent} {outgoing : List Telling} → Hears old event new outgoing → Turns old event new outgoing
turns (tables.waits none) = idles none
turns (tables.ticks play) = plays _ laws.ticks play
turns {old} (tables.sits {line} index other none nowhere free left) = moves _ none (length-set old.seats index (Some line))
turns (tables.begins index none nowhere free taken opens) = starts none (record { index = index; has_none = nowhere; free = free; taken = refl; full = taken }) opens
turns {old} (tables.is_full {line} nowhere taken) = passes laws.late (away old line (spelling (refusal_message NoSeat)) nowhere)
turns {old} (tables.comes_late {line} nowhere begun) = passes laws.late (away old line (spelling (refusal_message NoSeat)) nowhere)
turns (tables.stays seat) = passes laws.late (λ index line there. refl)
turns (tables.waits_too none) = idles none
turns (tables.stirs index there play) = plays _ (laws.stirs index there) play
turns (tables.is_early index there none) = idles none
turns (tables.plays index there play) = plays _ (laws.plays index there) play
turns {old} (tables.frees index there none) = moves _ none (length-set old.seats index None)
turns (tables.goes index there play) = plays _ (laws.goes index there) play
turns (tables.is_moment_for_none nowhere) = passes (laws.stirs_not nowhere) (λ index line there. refl)
turns (tables.is_unheard nowhere) = passes (laws.says_not nowhere) (λ index line there. refl)
turns (tables.goes_unheard nowhere) = passes (laws.goes_not nowhere) (λ index line there. refl)

-- a table keeps its game, its text, its config and the number of its seats
turned : {old new : TableState} {event : OwnEvent} {outgoing : List Telling} → Turns old event new outgoing → (new.game ≡ old.game) × (new.text ≡ old.text) × (new.config ≡ old.config) × (length new.seats ≡ length old.seats)
turned (idles none) = (refl, refl, refl, refl)
turned (moves seats none count) = (refl, refl, refl, count)
turned {old} (starts {line} none takes opens) = (refl, refl, refl, ap length takes.taken ∙ length-set old.seats takes.index (Some line))
turned (passes hands quiet) = (refl, refl, refl, refl)
turned {old} (plays one hands play) = subst (λ (table : TableState). (table.game ≡ old.game) × (table.text ≡ old.text) × (table.config ≡ old.config) × (length table.seats ≡ length old.seats)) (sym play.is) (refl, refl, refl, refl)

-- What the match of a log's script has sent since then is what the lines on the seats were told.
record Since {W : Type 0} (told : W → List ℕ → Type 0) (log : W) (game : AbstractGame) (text : List ℕ) (config : Config) (events : List OwnEvent) (seats : List (Option ℕ)) (playing : MatchState) (outgoing : List Telling) : Type 0 where
  beginning : Beginning game text config events seats
  held : List ℕ
  sent : List (List ℕ)
  tells : told log held
  is : IsLog text held playing sent
  count : length sent ≡ length seats
  on_seats : (index one : ℕ) → slice_get seats index ≡ Some (Some one) → bytes_to one outgoing ≡ bytes_to one beginning.early ++ get_or sent index []

-- The log is such a one once the match has begun, and empty before.
abbrev Logged : {W : Type 0} → (told : W → List ℕ → Type 0) → (log : W) → AbstractGame → (text : List ℕ) → Config → List OwnEvent → (seats : List (Option ℕ)) → Option MatchState → (outgoing : List Telling) → Type 0
Logged told log game text config events seats None outgoing = told log []
Logged told log game text config events seats (Some playing) outgoing = Since told log game text config events seats playing outgoing

module _ {W : Type 0} (told : W → List ℕ → Type 0) (first last : W) (game : AbstractGame) (text : List ℕ) (config : Config) (events : List OwnEvent) (outgoing : List Telling) (lines : List AbstractEvent) (its : Config) (moment : ℕ) where
  -- nothing is written
  written_still : (held : List ℕ) → lines ≡ [] → Appends told first last (event_lines lines ++ []) → told first held → told last held
  written_still held none appends tells =
      subst (told last) (append-nil held)
      (subst (λ (these : List AbstractEvent). told last (held ++ (event_lines these ++ []))) none (appends held tells))

  waits_on : (event : OwnEvent) (next : List Telling) (was : Option MatchState) (seats others : List (Option ℕ)) → was ≡ None → lines ≡ [] → Appends told first last (event_lines lines ++ first_for (is_none was) was its moment) → Logged told first game text config events seats was outgoing → Logged told last game text config (events ++ event ∷ []) others was (outgoing ++ next)
  waits_on event next None seats others none unwritten appends logged = written_still [] unwritten appends logged
  waits_on event next (Some playing) seats others none unwritten appends logged = absurd (none-some playing (sym none))

  starts_on : (was : Option MatchState) (old : TableState) (seats : List (Option ℕ)) (opened : MatchState) (queues : List (List ℕ)) (line : ℕ) → was ≡ None → lines ≡ [] → moment < 2 ^ 64 → Loads text game → TableRun game text config events old outgoing → old.begun ≡ None → TakesLast old line seats → SeatsDiffer seats → length seats ≡ seats_of game → its ≡ config → Opens game text config moment opened queues → Appends told first last (event_lines lines ++ first_for (is_none was) (Some opened) its moment) → Logged told first game text config events old.seats was outgoing → Since told last game text config (events ++ joins line moment ∷ []) seats opened (outgoing ++ to_lines seats queues)
  starts_on None old seats opened queues line none unwritten small loads run waits takes differ seated same opens appends logged = record {
    beginning = record { before = events; line = line; at = moment; after = []; whole = refl; gathering = old; early = outgoing; gathers = run; waits = waits; takes = takes };
    held = first_line config moment;
    sent = queues;
    tells = subst (λ (one : Config). told last (first_line one moment)) same
        (subst (λ (these : List AbstractEvent). told last (event_lines these ++ first_line its moment)) unwritten (appends [] logged));
    is = log_begins game text config moment opened queues loads small opens;
    count = seats_of_opened game text config moment opened queues opens ∙ ap seats_of opens.of_game ∙ sym seated;
    on_seats = λ index one there. bytes_to-append one outgoing (to_lines seats queues) ∙ ap (λ more. bytes_to one outgoing ++ more) (own_on one seats queues index differ there);
  }
  starts_on (Some playing) old seats opened queues line none unwritten small loads run waits takes differ seated same opens appends logged = absurd (none-some playing (sym none))

  passes_on : (event : OwnEvent) (next : List Telling) (was : Option MatchState) (seats : List (Option ℕ)) → lines ≡ [] → ((index one : ℕ) → slice_get seats index ≡ Some (Some one) → bytes_to one next ≡ []) → Appends told first last (event_lines lines ++ first_for (is_none was) was its moment) → Logged told first game text config events seats was outgoing → Logged told last game text config (events ++ event ∷ []) seats was (outgoing ++ next)
  passes_on event next None seats unwritten quiet appends logged = written_still [] unwritten appends logged
  passes_on event next (Some playing) seats unwritten quiet appends logged = record {
    beginning = seen_later event logged.beginning;
    held = logged.held;
    sent = logged.sent;
    tells = written_still logged.held unwritten appends logged.tells;
    is = logged.is;
    count = logged.count;
    on_seats = λ index one there.
        bytes_to-append one outgoing next
        ∙ (λ i. logged.on_seats index one there i ++ quiet index one there i)
        ∙ append-nil (bytes_to one logged.beginning.early ++ get_or logged.sent index []);
  }

  plays_on : (event : OwnEvent) (next : List Telling) (was : Option MatchState) (seats : List (Option ℕ)) (before after : MatchState) (one : AbstractEvent) (queues : List (List ℕ)) (count : ℕ) → was ≡ Some before → lines ≡ written_for was one → All EventHasSpelling lines → SeatsDiffer seats → length seats ≡ count → Steps before one after (replicate count []) queues → next ≡ to_lines seats queues → Appends told first last (event_lines lines ++ first_for (is_none was) (Some after) its moment) → Logged told first game text config events seats was outgoing → Since told last game text config (events ++ event ∷ []) seats after (outgoing ++ next)
  plays_on event next None seats before after one queues count is noted spelled differ seated step to appends logged = absurd (none-some before is)
  plays_on event next (Some playing) seats before after one queues count is noted spelled differ seated step to appends logged =
      let step' : Steps playing one after (replicate count []) queues = subst (λ (state : MatchState). Steps state one after (replicate count []) queues) (sym (same playing before is)) step in
      record {
        beginning = seen_later event logged.beginning;
        held = logged.held ++ event_lines (written playing one);
        sent = delivered logged.sent step'.outgoing;
        tells = subst (λ (bytes : List ℕ). told last (logged.held ++ bytes)) (append-nil (event_lines (written playing one)))
            (subst (λ (these : List AbstractEvent). told last (logged.held ++ (event_lines these ++ []))) noted (appends logged.held logged.tells));
        is = log_on text logged.held playing after logged.sent (delivered logged.sent step'.outgoing) one logged.is (step_on logged.sent step')
            (subst (λ (these : List AbstractEvent). All EventHasSpelling these) noted spelled);
        count = length-delivered logged.sent step'.outgoing ∙ logged.count;
        on_seats = λ index line there.
            (let within : index < length seats = there_within seats index (Some line) there in
            let own : bytes_to line next ≡ bytes_for (1 + index) step'.outgoing =
            ap (bytes_to line) to ∙ own_on line seats queues index differ there ∙ ap (λ all. get_or all index []) step'.told ∙ from_nothing count index step'.outgoing (subst (λ (n : ℕ). index < n) seated within) in
            bytes_to-append line outgoing next
            ∙ (λ i. logged.on_seats index line there i ++ own i)
            ∙ append_assoc (bytes_to line logged.beginning.early) (get_or logged.sent index []) (bytes_for (1 + index) step'.outgoing)
            ∙ ap (λ all. bytes_to line logged.beginning.early ++ all) (sym (delivered_at 1 logged.sent step'.outgoing index (subst (λ (n : ℕ). index < n) (sym logged.count) within))));
      }
    where
      same : (a b : MatchState) → Some a ≡ Some b → a ≡ b
      same a b is = cc

-- A table that stands after these events, with a log or none.
record Stands {W : Type 0} (told : W → List ℕ → Type 0) (game : AbstractGame) (text : List ℕ) (config : Config) (events : List OwnEvent) (table : TableState) (outgoing : List Telling) (log : Option W) : Type 0 where
  same_game : table.game ≡ game
  same_text : table.text ≡ text
  same_config : table.config ≡ config
  count : length table.seats ≡ seats_of table.game
  logged : (one : W) → log ≡ Some one → Logged told one game text config events table.seats table.begun outgoing

module _ {W : Type 0} (told : W → List ℕ → Type 0) (game : AbstractGame) (text : List ℕ) (config : Config) (loads : Loads text game) where
  -- a log after one more event
  logged_on : {events : List OwnEvent} {event : OwnEvent} {old new : TableState} {outgoing next : List Telling} {had : Option W} (first last : W) → TableRun game text config events old outgoing → Stands told game text config events old outgoing had → IsWritten told first last old event new → Turns old event new next → Logged told first game text config events old.seats old.begun outgoing → Logged told last game text config (events ++ event ∷ []) new.seats new.begun (outgoing ++ next)
  logged_on {events} {event} {old} {outgoing = outgoing} {next} first last run stands writes (idles none) logged =
      waits_on told first last game text config events outgoing writes.lines old.config (heard_at event) event next old.begun old.seats old.seats none (noted_waiting none writes.noted) writes.appends logged
  logged_on {events} {event} {old} {outgoing = outgoing} {next} first last run stands writes (moves seats none count) logged =
      waits_on told first last game text config events outgoing writes.lines old.config (heard_at event) event next old.begun old.seats seats none (noted_waiting none writes.noted) writes.appends logged
  logged_on {events} {old = old} {outgoing = outgoing} first last run stands writes (starts {line} {at} {seats} {opened} {queues} none takes opens) logged =
      let own_opens : Opens game text config at opened queues =
      subst (λ (one : AbstractGame). Opens one text config at opened queues) stands.same_game
      (subst (λ (one : List ℕ). Opens old.game one config at opened queues) stands.same_text
      (subst (λ (one : Config). Opens old.game old.text one at opened queues) stands.same_config opens)) in
      starts_on told first last game text config events outgoing writes.lines old.config at old.begun old seats opened queues line none (noted_waiting none writes.noted) writes.moment loads run none takes
      (subst SeatsDiffer (sym takes.taken) (differ_taken old.seats takes.index line (all_differ run) takes.has_none))
      (ap length takes.taken ∙ length-set old.seats takes.index (Some line) ∙ stands.count ∙ ap seats_of stands.same_game)
      stands.same_config own_opens writes.appends logged
  logged_on {events} {event} {old} {outgoing = outgoing} {next} first last run stands writes (passes hands quiet) logged =
      passes_on told first last game text config events outgoing writes.lines old.config (heard_at event) event next old.begun old.seats (noted_none (all_differ run) hands writes.noted) quiet writes.appends logged
  logged_on {events} {event} {old} {outgoing = outgoing} {next} first last run stands writes (plays one hands play) logged =
      subst (λ (table : TableState). Logged told last game text config (events ++ event ∷ []) table.seats table.begun (outgoing ++ next)) (sym play.is)
      (plays_on told first last game text config events outgoing writes.lines old.config (heard_at event) event next old.begun old.seats play.before play.after one play.queues (seats_of old.game) play.begun (noted_one one (all_differ run) hands writes.noted) writes.spelled (all_differ run) stands.count play.steps play.to
      (subst (λ (table : TableState). Appends told first last (event_lines writes.lines ++ first_for (is_none old.begun) table.begun old.config (heard_at event))) play.is writes.appends) logged)

  same_log : (a b : W) → Some a ≡ Some b → a ≡ b
  same_log a b is = cc

  changed_on : {events : List OwnEvent} {event : OwnEvent} {old new : TableState} {outgoing next : List Telling} {was is : Option W} → TableRun game text config events old outgoing → Stands told game text config events old outgoing was → Changes (λ first last. IsWritten told first last old event new) was is → Turns old event new next → (one : W) → is ≡ Some one → Logged told one game text config (events ++ event ∷ []) new.seats new.begun (outgoing ++ next)
  changed_on run stands without turn one there = absurd (none-some one there)
  changed_on {events} {event} {new = new} {outgoing} {next} run stands (with_log {old = first} {new = last} writes) turn one there =
      subst (λ (log : W). Logged told log game text config (events ++ event ∷ []) new.seats new.begun (outgoing ++ next)) (same_log last one there)
      (logged_on first last run stands writes turn (stands.logged first refl))

  -- a log that is given to a table
  given_on : (events : List OwnEvent) (seats : List (Option ℕ)) (outgoing : List Telling) (standing : Standing) (begun : Option MatchState) (had : Option W) (log : W) → told log [] → ((one : W) → had ≡ Some one → Logged told one game text config events seats begun outgoing) → (one : W) → (given begun (record { log = had; standing = standing }) log).log ≡ Some one → Logged told one game text config events seats begun outgoing
  given_on events seats outgoing Works None had log empty logged one there = subst (λ (it : W). told it []) (same_log log one there) empty
  given_on events seats outgoing Works (Some playing) had log empty logged one there = logged one there
  given_on events seats outgoing LogFailed begun had log empty logged one there = logged one there
  given_on events seats outgoing OutOfMemory begun had log empty logged one there = logged one there

  pub run_of : {events : List OwnEvent} {state : KeptState W} {outgoing : List Telling} → KeptRun told game text config events state outgoing → TableRun game text config events state.table outgoing
  run_of runs.none = tables.none
  run_of (runs.keeps run log empty) = run_of run
  run_of (runs.more run hears) = tables.more (run_of run) hears.hears

  stands_of : {events : List OwnEvent} {state : KeptState W} {outgoing : List Telling} → KeptRun told game text config events state outgoing → Stands told game text config events state.table outgoing state.ledger.log
  stands_of runs.none = record {
    same_game = refl;
    same_text = refl;
    same_config = refl;
    count = length-replicate {A = Option ℕ} (seats_of game) None;
    logged = λ one there. absurd (none-some one there);
  }
  stands_of (runs.keeps {state = state} run log empty) =
      let before = stands_of run in
      record {
        same_game = before.same_game;
        same_text = before.same_text;
        same_config = before.same_config;
        count = before.count;
        logged = given_on _ _ _ state.ledger.standing state.table.begun state.ledger.log log empty before.logged;
      }
  stands_of (runs.more run hears) =
      let before = stands_of run in
      let turn = turns hears.hears in
      let same = turned turn in
      record {
        same_game = same.0 ∙ before.same_game;
        same_text = same.1 ∙ before.same_text;
        same_config = same.2 ∙ before.same_config;
        count = same.3 ∙ before.count ∙ ap seats_of (sym same.0);
        logged = changed_on (run_of run) before hears.writes turn;
      }

-- the log that is told is there
told_there : {W : Type 0} (standing : Standing) (had : Option W) (log : W) → told_log (record { log = had; standing = standing }) ≡ Some log → had ≡ Some log
told_there Works had log is = is
told_there LogFailed had log is = absurd (none-some log is)
told_there OutOfMemory had log is = absurd (none-some log is)

pub log_sends_what_is_told : {W : Type 0} (told : W → List ℕ → Type 0) → LogSendsWhatIsTold told
log_sends_what_is_told {W} told game text config events state outgoing playing log loads run begun is =
    let holds : HoldsTranscript game text config events state.table.seats playing outgoing =
    run_holds_transcript game text config events outgoing (record { state = state.table; runs = run_of told game text config loads run }) playing begun in
    let there : state.ledger.log ≡ Some log = told_there state.ledger.standing state.ledger.log log is in
    let since : Since told log game text config events state.table.seats playing outgoing =
    subst (λ (one : Option MatchState). Logged told log game text config events state.table.seats one outgoing) begun ((stands_of told game text config loads run).logged log there) in
    record {
      holds = holds;
      held = since.held;
      sent = since.sent;
      tells = since.tells;
      is = since.is;
      on_seats = λ index line sits. since.on_seats index line sits
          ∙ ap (λ (early : List Telling). bytes_to line early ++ get_or since.sent index []) (same_early holds.beginning since.beginning);
    }
