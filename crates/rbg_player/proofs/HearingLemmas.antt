-- What a player does when it receives one message.
use Rattle.rbg_base.proofs.Common.{◌≡◌, ℕ, ◌⊎◌, List, [], ◌∷◌, ◌++◌, Some, None, Result, Ok, Err, false, sym, ap, subst, inl, inr, ◌∙◌, refl, IfErr, OnOk, none-some}
use Rattle.std.proofs.lemmas.List.{append-nil}
use Rattle.rbg_wire.specs.declared.message.Reason.{Reason}
use Rattle.rbg_wire.specs.declared.message.Reason.TheVariants.{NoSeat}
use Rattle.rbg_wire.specs.declared.outcome.Outcome.{Outcome}
use Rattle.rbg_wire.proofs.Common.{AbstractMessage, who_message, game_message, limits_message, move_message, refusal_message, end_message, join_message, spelling, SpellsMessage, HasFewPairs, complete}
use Rattle.rbg_rules.specs.Meaning.{AbstractGame, start_of, AbstractPlace, IsLegal, list_moves, IsHeavyToTry, IsTooHard}
use Rattle.rbg_search.specs.declared.over.Over.{Over}
use Rattle.rbg_search.specs.declared.over.Over.TheVariants.{Deep, Wide, Memory}
use Rattle.rbg_game.specs.Loading.{Loads}
use Rattle.rbg_player.specs.declared.error.PlayerError.{PlayerError}
use Rattle.rbg_player.specs.declared.error.PlayerError.TheVariants as errors
use Rattle.rbg_player.specs.declared.error.PlayerError.TheVariants.{BadMessage}
use Rattle.rbg_player.specs.Hearing.{IsPlayerOf, IsMover, HasMoveToMake, Accepts, is_named, is_seated, begins, passes, answers, is_refused, ends, is_in_place, HasFault, out_of_place, heavy_to_try, heavy_to_list, no_seat}
use Rattle.rbg_player.specs.Hearing as faults
use Rattle.rbg_player.specs.Streams.{HasItemFault, faulty}
use Rattle.rbg_player.specs.internal.Sitting.{error_of, Follows, IsAnswer, IsUnanswered, heavy, memory}
use Rattle.rbg_player.specs.internal.Stages.{AcceptsAndSays, AcceptsItem}
use Rattle.rbg_player.specs.Players.{AbstractSeat, Stage, unnamed, named, seated, playing, ended, failed, error_at}

-- the stage of a player that has answered this error, or none
pub error_is : (stage : Stage) (error : PlayerError) → Some error ≡ error_at stage → stage ≡ failed error
error_is (failed other) error is = let same : error ≡ other = cc in sym (ap failed same)
error_is unnamed error is = absurd (none-some error (sym is))
error_is (named player) error is = absurd (none-some error (sym is))
error_is (seated seat) error is = absurd (none-some error (sym is))
error_is (playing seat) error is = absurd (none-some error (sym is))
error_is (ended outcome) error is = absurd (none-some error (sym is))

pub not_failed : (stage : Stage) (error : PlayerError) → None ≡ error_at stage → stage ≡ failed error → ⊥
not_failed stage error is failed_is = none-some error (is ∙ ap error_at failed_is)

-- each way to receive a message, and each kind of fault
pub misplaced : (stage : Stage) (message : AbstractMessage) → is_in_place stage message ≡ false → HasFault stage message BadMessage
misplaced stage message is = out_of_place is

pub hears_name : (player : ℕ) (name : List ℕ) → Accepts unnamed (who_message player name) (named player) []
hears_name player name = is_named

pub hears_limits : (seat : AbstractSeat) (turn_ms refusals : ℕ) → Accepts (seated seat) (limits_message turn_ms refusals) (playing seat) []
hears_limits seat turn_ms refusals = begins

pub hears_refusal : (seat : AbstractSeat) (reason : Reason) → Accepts (playing seat) (refusal_message reason) (playing seat) []
hears_refusal seat reason = is_refused

pub hears_end : (seat : AbstractSeat) (outcome : Outcome) → Accepts (playing seat) (end_message outcome) (ended outcome) []
hears_end seat outcome = ends

pub hears_no_seat : HasFault unnamed (refusal_message NoSeat) errors.NoSeat
hears_no_seat = no_seat

pub ruleset hearing = (misplaced, hears_name, hears_limits, hears_refusal, hears_end, hears_no_seat)

-- the seat of a game that was loaded
pub sits : (player : ℕ) (text : List ℕ) (game : AbstractGame) (place : AbstractPlace) → Loads text game → IsPlayerOf game player → place ≡ record { state = start_of game; last = None } → Accepts (named player) (game_message text) (seated (record { player = player; game = game; place = place })) []
sits player text game place loads is start =
    subst (λ (one : AbstractPlace). let seat : AbstractSeat = record { player = player; game = game; place = one } in Accepts (named player) (game_message text) (seated seat) []) (sym start) (is_seated loads is)

-- `H` is never in place
pub never_joins : (stage : Stage) (table : ℕ) → HasFault stage (join_message table) BadMessage
never_joins unnamed table = out_of_place refl
never_joins (named player) table = out_of_place refl
never_joins (seated seat) table = out_of_place refl
never_joins (playing seat) table = out_of_place refl
never_joins (ended outcome) table = out_of_place refl
never_joins (failed error) table = out_of_place refl

-- a question that was given up
pub try_fault : (T : Type 0) (seat : AbstractSeat) (pairs : List (ℕ × ℕ)) (over : Over) → (◌≡◌ {A = Result T Over} (Err over) (Err Deep) ⊎ ◌≡◌ {A = Result T Over} (Err over) (Err Wide) → IsHeavyToTry seat.game seat.place pairs) → HasFault (playing seat) (move_message pairs) (error_of over)
try_fault T seat pairs Deep hard = heavy_to_try (hard (inl refl))
try_fault T seat pairs Wide hard = heavy_to_try (hard (inr refl))
try_fault T seat pairs Memory hard = faults.memory

pub unanswered : (T : Type 0) (seat : AbstractSeat) (over : Over) → IsMover seat → (◌≡◌ {A = Result T Over} (Err over) (Err Deep) ⊎ ◌≡◌ {A = Result T Over} (Err over) (Err Wide) → IsTooHard seat.game list_moves seat.place) → IsUnanswered seat (error_of over)
unanswered T seat Deep mover hard = heavy mover (hard (inl refl))
unanswered T seat Wide mover hard = heavy mover (hard (inr refl))
unanswered T seat Memory mover hard = memory

pub unanswered_fault : (old new : AbstractSeat) (pairs : List (ℕ × ℕ)) (error : PlayerError) → Follows old pairs new → IsUnanswered new error → HasFault (playing old) (move_message pairs) error
unanswered_fault old new pairs error follows (heavy mover hard) =
    heavy_to_list follows.legal (subst IsMover follows.same mover) (subst (λ (seat : AbstractSeat). IsTooHard seat.game list_moves seat.place) follows.same hard)
unanswered_fault old new pairs error follows memory = faults.memory

-- a move that was made, with the player's own move after it or with none
pub says_answer : (old new : AbstractSeat) (pairs answer : List (ℕ × ℕ)) (before after : List ℕ) → Follows old pairs new → IsAnswer new answer → after ≡ before ++ spelling (move_message answer) → AcceptsAndSays (playing old) (move_message pairs) (playing new) before after
says_answer old new pairs answer before after follows is tells = record {
  outgoing = move_message answer ∷ [];
  hears = subst (λ (seat : AbstractSeat). Accepts (playing old) (move_message pairs) (playing seat) (move_message answer ∷ [])) (sym follows.same)
      (answers follows.legal (subst HasMoveToMake follows.same is.has) (subst (λ (seat : AbstractSeat). IsLegal seat.game seat.place answer) follows.same is.legal) is.few);
  told = tells ∙ ap (λ text. before ++ text) (sym (append-nil (spelling (move_message answer))));
}

pub says_nothing : (old new : AbstractSeat) (pairs : List (ℕ × ℕ)) (bytes : List ℕ) → Follows old pairs new → ¬ HasMoveToMake new → AcceptsAndSays (playing old) (move_message pairs) (playing new) bytes bytes
says_nothing old new pairs bytes follows none = record {
  outgoing = [];
  hears = subst (λ (seat : AbstractSeat). Accepts (playing old) (move_message pairs) (playing seat) []) (sym follows.same)
      (passes follows.legal (λ has. none (subst HasMoveToMake (sym follows.same) has)));
  told = sym (append-nil bytes);
}

-- a message that is received with nothing sent
pub quietly : (result : Result (Unit {0}) PlayerError) (old new : Stage) (message : AbstractMessage) (bytes : List ℕ) → OnOk result (Accepts old message new []) → OnOk result (AcceptsAndSays old message new bytes bytes)
quietly (Ok x) old new message bytes hears = record { outgoing = []; hears = hears; told = sym (append-nil bytes) }
quietly (Err e) old new message bytes hears = tt

-- an item that is read as a message
pub heard_item : (result : Result (Unit {0}) PlayerError) (old new : Stage) (text : List ℕ) (message : AbstractMessage) (before after : List ℕ) → SpellsMessage text message × HasFewPairs message → OnOk result (AcceptsAndSays old message new before after) → OnOk result (AcceptsItem old (complete text) new before after)
heard_item (Ok x) old new text message before after read hears = record { text = text; message = message; is = refl; read = record { spelled = read.0; few = read.1 }; hears = hears }
heard_item (Err e) old new text message before after read hears = tt

pub faulty_item : (result : Result (Unit {0}) PlayerError) (old : Stage) (text : List ℕ) (message : AbstractMessage) → SpellsMessage text message × HasFewPairs message → IfErr result (HasFault old message) → IfErr result (HasItemFault old (complete text))
faulty_item (Ok x) old text message read fault = tt
faulty_item (Err e) old text message read fault = faulty (record { spelled = read.0; few = read.1 }) fault
