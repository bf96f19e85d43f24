-- A hall hears what its logs hold.
use Rattle.rbg_base.proofs.Common.{◌≡◌, ℕ, zero, suc, ◌+◌, ◌-◌, ◌<◌, ◌≤◌, ◌&&◌, List, [], ◌∷◌, ◌++◌, All, Bool, true, false, Option, Some, None, Result, Ok, Err, MatchResult, if◌then◌else◌, option_map, length, length-map, map, take, drop, get_or, ap, sym, ◌∙◌, refl, subst, append_assoc, append-nil, map-append, take-append-drop, All-push, IfOk, add-one}
use Rattle.std.specs.Borrow.{Bor}
use Rattle.std.specs.Global.{Vec}
use Rattle.std.proofs.lemmas.List.{drop_all, drop_more, take_more}
use Rattle.std.proofs.lemmas.Simd.{map-map}
use Rattle.rbg_base.proofs.CallerLemmas.{map-take_more}
use Rattle.rbg_hall.proofs.Common.{AbstractTable, HallHears, HallState}
use Rattle.rbg_script.specs.Events.{AbstractEvent, event_of, piece, owned_event_of}
use Rattle.rbg_script.specs.declared.event.Event.{Event}
use Rattle.rbg_match.specs.declared.config.Config.{Config}
use Rattle.rbg_network.specs.Archives.{Handed}
use Rattle.rbg_referee.specs.Scripts.{config_for}
use Rattle.rbg_console.specs.Files.{MayBe}
use Rattle.rbg_script.specs.Scripts.{AbstractScript, SpellsScript, script_of}
use Rattle.rbg_serving.specs.Cutting.{AreWholeLines}
use Rattle.rbg_wire.specs.Messages.{join_message, spelling}
use Rattle.rbg_script.specs.declared.script.Script.{Script}
use Rattle.rbg_hosting.specs.Moments.HearsPast.{part}
use Rattle.rbg_hosting.specs.Pasts.{AreLogs, HasConfig, IsLogOf, config_from, past_from, past_of, script_from, sent_by_each}
use Rattle.rbg_hosting.specs.Pasts.IsLogOf.{begun, not_begun}
use Rattle.rbg_hosting.specs.Pasts.AreLogs.{no_log, one_more}
use Rattle.rbg_hosting.specs.declared.past.Past.{Past}
use Rattle.rbg_hosting.specs.declared.recorded_hall.RecordedHall.{RecordedHall}
use Rattle.rbg_hosting.specs.declared.recorder.Recorder.{Recorder}
use Rattle.rbg_hosting.specs.internal.Recorded.{HandsOver, HasHeard, HasStopped, HearsMore}
use Rattle.rbg_hosting.specs.internal.Resuming.{past_in_code, pasts_in}
use Rattle.rbg_hosting.proofs.RecordedLemmas.{StoppedSo, has_archived, heard_next}

-- a hall that has heard so many of some events hears the next one
pub one_heard : {A : Type 0} {told : A → List Handed → Type 0} {starts : List AbstractTable} {matches : ℕ} {before after : Recorder A} {old new : HallState} {queues queued : List (List ℕ)} (earlier : List AbstractEvent) (events : List (Event (Bor (List ℕ)))) (index : ℕ) (read : Event (Bor (List ℕ))) →
    index < length events →
    HasHeard told starts matches before (earlier ++ map event_of (take index events)) old queues →
    HallHears old (event_of (get_or events index read)) new queues queued × HandsOver told before after old.tables new.tables →
    HasHeard told starts matches after (earlier ++ map event_of (take (index + 1) events)) new queued
one_heard {told = told} {starts = starts} {matches = matches} {after = after} {new = new} {queued = queued} earlier events index read within so_far hears =
    subst (λ all. HasHeard told starts matches after all new queued)
    (append_assoc earlier (map event_of (take index events)) (event_of (get_or events index read) ∷ [])
    ∙ ap (λ all. earlier ++ all) (sym (ap (map event_of) (take_more events index read within) ∙ map-append event_of (take index events) (get_or events index read ∷ []))))
    (heard_next so_far hears.0 hears.1)

-- it stops at one of them
pub stopped_at : {A : Type 0} {told : A → List Handed → Type 0} {starts : List AbstractTable} {matches : ℕ} {before after : Recorder A} {earlier : List AbstractEvent} {state : HallState} {queues : List (List ℕ)} (events : List (Event (Bor (List ℕ)))) (index : ℕ) →
    HasHeard told starts matches before (earlier ++ map event_of (take index events)) state queues →
    after ≡ before →
    HasStopped told starts matches after earlier (map event_of events)
stopped_at {told = told} {starts = starts} {matches = matches} {earlier = earlier} {state = state} {queues = queues} events index so_far same = record {
  heard = map event_of (take index events);
  left = map event_of (drop index events);
  parts = ap (map event_of) (sym (take-append-drop index events)) ∙ map-append event_of (take index events) (drop index events);
  state = state;
  queues = queues;
  is = subst (λ recorder. HasHeard told starts matches recorder (earlier ++ map event_of (take index events)) state queues) (sym same) so_far;
}

-- it stops before all of them
pub stopped_first : {A : Type 0} {told : A → List Handed → Type 0} {starts : List AbstractTable} {matches : ℕ} {recorder : Recorder A} {earlier : List AbstractEvent} {state : HallState} {queues : List (List ℕ)} (more : List AbstractEvent) →
    HasHeard told starts matches recorder earlier state queues →
    HasStopped told starts matches recorder earlier more
stopped_first {told = told} {starts = starts} {matches = matches} {recorder = recorder} {earlier = earlier} {state = state} {queues = queues} more so_far = record {
  heard = [];
  left = more;
  parts = refl;
  state = state;
  queues = queues;
  is = subst (λ events. HasHeard told starts matches recorder events state queues) (sym (append-nil earlier)) so_far;
}

-- what is to be heard is the same
pub hears_same : {W A U E : Type 0} (told : A → List Handed → Type 0) (old new : RecordedHall W A) (before after : List (List ℕ)) (more other : List AbstractEvent) (result : Result U E) → more ≡ other → HearsMore told old new before after more result → HearsMore told old new before after other result
hears_same told old new before after more other result same hears = subst (λ events. HearsMore told old new before after events result) same hears

-- What a hall has heard of what it has to hear, and what it has to hear still.
pub record HasHeardPart {A : Type 0} (told : A → List Handed → Type 0) (starts : List AbstractTable) (matches : ℕ) (recorder : Recorder A) (earlier more left : List AbstractEvent) (state : HallState) (queues : List (List ℕ)) : Type 0 where
  pub heard : List AbstractEvent
  pub parts : more ≡ heard ++ left
  pub is : HasHeard told starts matches recorder (earlier ++ heard) state queues

-- at first it has heard nothing
pub none_heard : {A : Type 0} {told : A → List Handed → Type 0} {starts : List AbstractTable} {matches : ℕ} {recorder : Recorder A} {earlier : List AbstractEvent} {state : HallState} {queues : List (List ℕ)} (more : List AbstractEvent) →
    HasHeard told starts matches recorder earlier state queues →
    HasHeardPart told starts matches recorder earlier more more state queues
none_heard {told = told} {starts = starts} {matches = matches} {recorder = recorder} {earlier = earlier} {state = state} {queues = queues} more so_far = record {
  heard = [];
  parts = refl;
  is = subst (λ events. HasHeard told starts matches recorder events state queues) (sym (append-nil earlier)) so_far;
}

-- then some more
pub part_heard : {A : Type 0} {told : A → List Handed → Type 0} {starts : List AbstractTable} {matches : ℕ} {before after : Recorder A} {earlier more left next rest : List AbstractEvent} {old new : HallState} {queues queued : List (List ℕ)} →
    left ≡ next ++ rest →
    HasHeardPart told starts matches before earlier more left old queues →
    ((events : List AbstractEvent) → HasHeard told starts matches before events old queues → HasHeard told starts matches after (events ++ next) new queued) →
    HasHeardPart told starts matches after earlier more rest new queued
part_heard {told = told} {starts = starts} {matches = matches} {after = after} {earlier = earlier} {next = next} {rest = rest} {new = new} {queued = queued} parts so_far hears = record {
  heard = so_far.heard ++ next;
  parts = so_far.parts ∙ ap (λ events. so_far.heard ++ events) parts ∙ sym (append_assoc so_far.heard next rest);
  is = subst (λ events. HasHeard told starts matches after events new queued) (append_assoc earlier so_far.heard next) (hears (earlier ++ so_far.heard) so_far.is);
}

-- or it stops there
pub part_stopped : {A : Type 0} {told : A → List Handed → Type 0} {starts : List AbstractTable} {matches : ℕ} {before after : Recorder A} {earlier more left next : List AbstractEvent} {old : HallState} {queues : List (List ℕ)} (rest : List AbstractEvent) →
    left ≡ next ++ rest →
    HasHeardPart told starts matches before earlier more left old queues →
    ((events : List AbstractEvent) → HasHeard told starts matches before events old queues → HasStopped told starts matches after events next) →
    HasStopped told starts matches after earlier more
part_stopped {told = told} {starts = starts} {matches = matches} {after = after} {earlier = earlier} rest parts so_far stops =
    let stop = stops (earlier ++ so_far.heard) so_far.is in
    record {
      heard = so_far.heard ++ stop.heard;
      left = stop.left ++ rest;
      parts = so_far.parts ∙ ap (λ events. so_far.heard ++ events) (parts ∙ ap (λ events. events ++ rest) stop.parts ∙ append_assoc stop.heard stop.left rest)
          ∙ sym (append_assoc so_far.heard stop.heard (stop.left ++ rest));
      state = stop.state;
      queues = stop.queues;
      is = subst (λ events. HasHeard told starts matches after events stop.state stop.queues) (append_assoc earlier so_far.heard stop.heard) stop.is;
    }

-- or before that
pub rest_stopped : {A : Type 0} {told : A → List Handed → Type 0} {starts : List AbstractTable} {matches : ℕ} {recorder : Recorder A} {earlier more left : List AbstractEvent} {state : HallState} {queues : List (List ℕ)} →
    HasHeardPart told starts matches recorder earlier more left state queues →
    HasStopped told starts matches recorder earlier more
rest_stopped {left = left} {state = state} {queues = queues} so_far = record {
  heard = so_far.heard;
  left = left;
  parts = so_far.parts;
  state = state;
  queues = queues;
  is = so_far.is;
}

-- at last it has heard all
pub all_heard : {A : Type 0} {told : A → List Handed → Type 0} {starts : List AbstractTable} {matches : ℕ} {recorder : Recorder A} {earlier more left : List AbstractEvent} {state : HallState} {queues : List (List ℕ)} →
    left ≡ [] →
    HasHeardPart told starts matches recorder earlier more left state queues →
    HasHeard told starts matches recorder (earlier ++ more) state queues
all_heard {told = told} {starts = starts} {matches = matches} {recorder = recorder} {earlier = earlier} {state = state} {queues = queues} none so_far =
    subst (λ events. HasHeard told starts matches recorder (earlier ++ events) state queues)
    (sym (so_far.parts ∙ ap (λ events. so_far.heard ++ events) none ∙ append-nil so_far.heard)) so_far.is

-- what is left of the logs at the next match
pub past_next : (number line many : ℕ) (players : List ℕ) (pasts : List Past) (index : ℕ) (past : Past) →
    index < length players → index < length pasts → many ≡ get_or players index 0 → past ≡ get_or pasts index past →
    past_from number line (drop index players) (pasts_in (drop index pasts))
    ≡ past_of number line many (past_in_code past) ++ past_from (number + 1) (line + many) (drop (index + 1) players) (pasts_in (drop (index + 1) pasts))
past_next number line many players pasts index past within_players within_pasts of_players of_pasts =
    ap (λ them. past_from number line them (pasts_in (drop index pasts))) (drop_more players index 0 within_players ∙ ap (λ n. n ∷ drop (index + 1) players) (sym of_players))
    ∙ ap (λ them. past_from number line (many ∷ drop (index + 1) players) (pasts_in them)) (drop_more pasts index past within_pasts ∙ ap (λ p. p ∷ drop (index + 1) pasts) (sym of_pasts))

-- nothing is left after the last one
pub past_last : (number line : ℕ) (players : List ℕ) (pasts : List Past) (index : ℕ) → length pasts ≤ index → past_from number line (drop index players) (pasts_in (drop index pasts)) ≡ []
past_last number line players pasts index few = ap (λ them. past_from number line (drop index players) (pasts_in them)) (drop_all index pasts few)

-- a run that stopped within the past
pub stopped_past : {A C : Type 0} {told : A → List Handed → Type 0} {clock_told : C → List ℕ → Type 0} {starts : List AbstractTable} {matches : ℕ} {recorder : Recorder A} {past : List AbstractEvent} → HasStopped told starts matches recorder [] past → StoppedSo told clock_told starts matches past recorder
stopped_past stop = record {
  events = stop.heard;
  hears = part stop.heard stop.left stop.parts;
  state = stop.state;
  archived = has_archived stop.is;
}

-- the first log of a match that has begun
pub next_config : (usual : Config) (pasts : List Past) (index : ℕ) (past : Past) → index < length pasts → past ≡ get_or pasts index past → past.script ≡ None → config_from usual (pasts_in (drop index pasts)) ≡ config_from usual (pasts_in (drop (index + 1) pasts))
next_config usual pasts index past within is none =
    ap (λ them. config_from usual (pasts_in them)) (drop_more pasts index past within ∙ ap (λ p. p ∷ drop (index + 1) pasts) (sym is))
    ∙ ap (λ (script : Option Script). config_from usual (option_map script_of script ∷ pasts_in (drop (index + 1) pasts))) none

-- one more player asks
pub asked_more : (line at : ℕ) (asked : List ℕ) (players : ℕ) (before : List AbstractEvent) → (before ++ sent_by_each line at asked players) ++ piece (line + players) at asked ∷ [] ≡ before ++ sent_by_each line at asked (players + 1)
asked_more line at asked players before =
    append_assoc before (sent_by_each line at asked players) (piece (line + players) at asked ∷ [])
    ∙ ap (λ n. before ++ sent_by_each line at asked n) (sym (add-one players))

-- one more event is heard
pub heard_more : (events before : List (Event (Bor (List ℕ)))) (added : Event (Bor (List ℕ))) (script : List (Event (Vec ℕ))) (index : ℕ) (event : Event (Vec ℕ)) (heard : Event (Vec ℕ) → AbstractEvent) →
    index < length script →
    event ≡ get_or script index event →
    event_of added ≡ heard event →
    map event_of events ≡ map event_of before ++ map heard (take index script) →
    map event_of (events ++ added ∷ []) ≡ map event_of before ++ map heard (take (index + 1) script)
heard_more events before added script index event heard within is same so_far =
    map-append event_of events (added ∷ [])
    ∙ ap (λ all. all ++ event_of added ∷ []) so_far
    ∙ append_assoc (map event_of before) (map heard (take index script)) (event_of added ∷ [])
    ∙ ap (λ all. map event_of before ++ all) (ap (λ one. map heard (take index script) ++ one ∷ []) same ∙ sym (map-take_more heard script index event within is))

-- the line of a seat that is there, and of one that isn't
pub line_found : (b : Bool) (line : ℕ) → b ≡ true → Some line ≡ (if b then Some line else None)
line_found b line is = subst (λ (one : Bool). Some line ≡ (if one then Some line else None)) (sym is) refl

pub line_missing : (b : Bool) (line : ℕ) → b ≡ false → None ≡ (if b then Some line else None)
line_missing b line is = subst (λ (one : Bool). None ≡ (if one then Some line else None)) (sym is) refl

-- one more log
pub one_more_log : (known : (number : ℕ) → Option (List ℕ)) (pasts : List Past) (past : Past) (number : ℕ) → AreLogs known (pasts_in pasts) → number ≡ length pasts + 1 → IsLogOf (known number) (past_in_code past) → AreLogs known (pasts_in (pasts ++ past ∷ []))
one_more_log known pasts past number are is one =
    subst (AreLogs known) (sym (map-append past_in_code pasts (past ∷ [])))
    (one_more (pasts_in pasts) (past_in_code past) are
    (subst (λ n. IsLogOf (known n) (past_in_code past)) (is ∙ ap (λ n. n + 1) (sym (length-map pasts past_in_code))) one))

-- nothing more is to be heard
pub nothing_heard : {A : Type 0} {told : A → List Handed → Type 0} {starts : List AbstractTable} {matches : ℕ} {recorder : Recorder A} {earlier : List AbstractEvent} {state : HallState} {queues : List (List ℕ)} (more : List AbstractEvent) →
    more ≡ [] →
    HasHeard told starts matches recorder earlier state queues →
    HasHeard told starts matches recorder (earlier ++ more) state queues
nothing_heard {told = told} {starts = starts} {matches = matches} {recorder = recorder} {earlier = earlier} {state = state} {queues = queues} more none so_far =
    subst (λ events. HasHeard told starts matches recorder events state queues) (sym (ap (λ events. earlier ++ events) none ∙ append-nil earlier)) so_far

-- what is heard of a match that has not begun
pub past_none : (number line players : ℕ) (past : Past) → past.script ≡ None → past_of number line players (past_in_code past) ≡ []
past_none number line players past none = ap (λ (script : Option Script). past_of number line players (option_map script_of script)) none

-- and of one that has
pub past_some : (number line players : ℕ) (past : Past) (script : Script) → past.script ≡ Some script → script_from (spelling (join_message number)) line players (script_of script) ≡ past_of number line players (past_in_code past)
past_some number line players past script is = sym (ap (λ (one : Option Script). past_of number line players (option_map script_of one)) is)

-- the events of a script
pub script_added : (none first second : List (Event (Bor (List ℕ)))) (sent : List AbstractEvent) (slice items : List (Event (Vec ℕ))) (heard : AbstractEvent → AbstractEvent) →
    none ≡ [] →
    map event_of first ≡ map event_of none ++ sent →
    map event_of second ≡ map event_of first ++ map (λ event. heard (owned_event_of event)) slice →
    slice ≡ items →
    map event_of second ≡ sent ++ map heard (map owned_event_of items)
script_added none first second sent slice items heard is_none asked added same =
    added
    ∙ ap (λ events. events ++ map (λ event. heard (owned_event_of event)) slice) (asked ∙ ap (λ events. map event_of events ++ sent) is_none)
    ∙ ap (λ events. sent ++ map (λ event. heard (owned_event_of event)) events) same
    ∙ ap (λ events. sent ++ events) (sym (map-map heard owned_event_of items))

-- the config of the first match that has begun
pub found_config : (usual : Config) (pasts : List Past) (index : ℕ) (past : Past) (script : Script) → index < length pasts → past ≡ get_or pasts index past → past.script ≡ Some script → config_from usual (pasts_in (drop index pasts)) ≡ config_for script.config
found_config usual pasts index past script within is some =
    ap (λ them. config_from usual (pasts_in them)) (drop_more pasts index past within ∙ ap (λ p. p ∷ drop (index + 1) pasts) (sym is))
    ∙ ap (λ (one : Option Script). config_from usual (option_map script_of one ∷ pasts_in (drop (index + 1) pasts))) some

-- none has begun
pub usual_config : (usual : Config) (pasts : List Past) (index : ℕ) → length pasts ≤ index → config_from usual (pasts_in (drop index pasts)) ≡ usual
usual_config usual pasts index few = ap (λ them. config_from usual (pasts_in them)) (drop_all index pasts few)

-- one more match has the config
pub config_more : (config : Config) (pasts : List Past) (index : ℕ) (past : Past) → index < length pasts → past ≡ get_or pasts index past → All (HasConfig config) (pasts_in (take index pasts)) → HasConfig config (past_in_code past) → All (HasConfig config) (pasts_in (take (index + 1) pasts))
config_more config pasts index past within is so_far one =
    subst (All (HasConfig config)) (sym (map-take_more past_in_code pasts index past within is)) (All-push (HasConfig config) (pasts_in (take index pasts)) (past_in_code past) so_far one)

-- a log with no whole line
pub empty_log : (known : Option (List ℕ)) (bytes whole : List ℕ) → MayBe known bytes → AreWholeLines bytes whole → whole ≡ [] → IsLogOf known None
empty_log known bytes whole may are empty = not_begun bytes may (subst (AreWholeLines bytes) empty are)

-- a log of which the same is known
pub same_log : (old new : List ℕ → Option (List ℕ)) (name log : List ℕ) (past : Past) → new name ≡ old name → log ≡ name → IsLogOf (new log) (past_in_code past) → IsLogOf (old name) (past_in_code past)
same_log old new name log past kept same is =
    subst (λ known. IsLogOf known (past_in_code past)) kept (subst (λ one. IsLogOf (new one) (past_in_code past)) same is)
