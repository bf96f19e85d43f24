-- A table plays on.
use Rattle.std.proofs.Common.{◌≡◌, ℕ, List, Option, Some, Result, refl, sym, subst, OnOk}
use Rattle.rbg_match.specs.declared.config.Config.{Config}
use Rattle.rbg_match.proofs.Common.{MatchState}
use Rattle.rbg_script.specs.Events.{AbstractEvent}
use Rattle.rbg_hall.proofs.TableCommon.{Phase, Begun, TableState, PlaysFor, game_in, begun_in, StepsFor}
use Rattle.rbg_hall.proofs.Seated.{ok_so, plays_for}

abbrev pub table_of : (text : List ℕ) → Config → List (Option ℕ) → Phase → TableState
table_of text config seats phase =
    record { game = game_in phase; text = text; config = config; seats = seats; begun = begun_in phase }

phase_plays : (text : List ℕ) (config : Config) (seats : List (Option ℕ)) (playing after : MatchState) (event : AbstractEvent) (before queues : List (List ℕ)) → after.game ≡ playing.game → StepsFor playing event after seats before queues → PlaysFor (table_of text config seats (Begun playing)) event (table_of text config seats (Begun after)) before queues
phase_plays text config seats playing after event before queues same step =
    plays_for (table_of text config seats (Begun playing)) (table_of text config seats (Begun after)) playing after event before queues refl refl step
    (λ i. record { game = same i; text = text; config = config; seats = seats; begun = Some after })

pub ok_phase : {E : Type 0} (text : List ℕ) (config : Config) (seats : List (Option ℕ)) (phase : Phase) (playing after : MatchState) (event : AbstractEvent) (before queues : List (List ℕ)) (result : Result (Unit {0}) E) → phase ≡ Begun playing → after.game ≡ playing.game → OnOk result (StepsFor playing event after seats before queues) → OnOk result (PlaysFor (table_of text config seats phase) event (table_of text config seats (Begun after)) before queues)
ok_phase text config seats phase playing after event before queues result is same steps =
    ok_so result steps
    (λ step. subst (λ one. PlaysFor (table_of text config seats one) event (table_of text config seats (Begun after)) before queues) (sym is)
    (phase_plays text config seats playing after event before queues same step))
