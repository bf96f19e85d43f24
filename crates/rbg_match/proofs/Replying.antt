-- Calls of a referee, one after another.
use Rattle.rbg_base.proofs.Common.{◌≡◌, ℕ, ◌-◌, ◌<◌, ◌≤◌, arith, List, [], ◌++◌, sym, ap, ◌∙◌, subst, Result, Ok, None, IfOk, IsErr, All-set, none-some, IfOk-weaker, IfOk-from_err}
use Rattle.std.proofs.lemmas.List.{length-set}
use Rattle.rbg_wire.specs.declared.outcome.Outcome.{Outcome}
use Rattle.rbg_rules.specs.Meaning.{AbstractGame, AbstractPlace, IsPlaceOf}
use Rattle.rbg_match.proofs.Common.{Config, Delivery, most_refusals, AbstractPlay, ended, moved, refusals_of, refused, IsPlayOf, RefereeState, Reply, Replies, IsReferee, gone_on, QueuesMessages}
use Rattle.rbg_match.proofs.Delivering.{delivered-append, delivered-none}
use Rattle.rbg_match.proofs.Sayings.{length-says}

-- play stays, and nothing is sent
pub nothing_done : (referee : RefereeState) → referee ≡ gone_on referee referee.play []
nothing_done referee = ap (λ outbox. let one : RefereeState = record referee { outbox = outbox } in one) (sym (delivered-none referee.outbox))

-- play continues, and then continues further
pub gone_on-twice : (referee : RefereeState) (play last : AbstractPlay) (first next : List Delivery) → gone_on (gone_on referee play first) last next ≡ gone_on referee last (first ++ next)
gone_on-twice referee play last first next = ap (λ outbox. let one : RefereeState = record referee { play = last; outbox = outbox } in one) (delivered-append referee.outbox first next)

-- nothing was done, and nothing was to be done
pub replies_nothing : {T E : Type 0} (value : T) (referee : RefereeState) (IsReply : Reply T) → IsReply referee value referee.play [] → Replies {E = E} referee referee (Ok value) IsReply
replies_nothing value referee IsReply nothing = record { after = referee.play; outgoing = []; becomes = nothing_done referee; whole = nothing }

-- nothing was done, and the answer is a refusal
pub replies_err : {T E : Type 0} (referee : RefereeState) (refusal : Result T E) → IsErr refusal → (IsReply : Reply T) → Replies referee referee refusal IsReply
replies_err referee refusal is_err IsReply = record {
  after = referee.play;
  outgoing = [];
  becomes = nothing_done referee;
  whole = IfOk-from_err refusal (λ value. IsReply referee value referee.play []) is_err;
}

-- messages were queued, and this is the answer
pub replies_saying : {T U E F : Type 0} {outbox : List (List ℕ)} {result : Result T E} {IsToSay : T → List Delivery → Type 0} (referee : RefereeState) (says : QueuesMessages referee.outbox outbox result IsToSay) (play : AbstractPlay) (answer : Result U F) (IsReply : Reply U) → IfOk answer (λ value. IsReply referee value play says.outgoing) → Replies referee (record referee { play = play; outbox = outbox }) answer IsReply
replies_saying referee says play answer IsReply whole = record {
  after = play;
  outgoing = says.outgoing;
  becomes = ap (λ outbox. let one : RefereeState = record referee { play = play; outbox = outbox } in one) says.beyond;
  whole = whole;
}

-- messages were queued, and the answer is a refusal
pub refuses_saying : {T U E F : Type 0} {outbox : List (List ℕ)} {result : Result T E} {IsToSay : T → List Delivery → Type 0} (referee : RefereeState) (says : QueuesMessages referee.outbox outbox result IsToSay) (play : AbstractPlay) (refusal : Result U F) → IsErr refusal → (IsReply : Reply U) → Replies referee (record referee { play = play; outbox = outbox }) refusal IsReply
refuses_saying referee says play refusal is_err IsReply = replies_saying referee says play refusal IsReply (IfOk-from_err refusal (λ value. IsReply referee value play says.outgoing) is_err)

-- what comes of a call is also something else that was to come of it
pub replies_also : {T E : Type 0} {old new : RefereeState} {result : Result T E} {IsReply : Reply T} → Replies old new result IsReply → (Also : Reply T) → ((value : T) (after : AbstractPlay) (outgoing : List Delivery) → IsReply old value after outgoing → Also old value after outgoing) → Replies old new result Also
replies_also {old = old} {result = result} {IsReply = IsReply} replies Also turn = record {
  after = replies.after;
  outgoing = replies.outgoing;
  becomes = replies.becomes;
  whole = IfOk-weaker result (λ value. IsReply old value replies.after replies.outgoing) (λ value. Also old value replies.after replies.outgoing) (λ value. turn value replies.after replies.outgoing) replies.whole;
}

-- play is at another state, and nothing is sent
pub replies_quietly : {T E : Type 0} {new : RefereeState} (value : T) (referee : RefereeState) (play : AbstractPlay) → new ≡ record referee { play = play } → (IsReply : Reply T) → IsReply referee value play [] → Replies {E = E} referee new (Ok value) IsReply
replies_quietly value referee play is IsReply whole = record { after = play; outgoing = []; becomes = is ∙ nothing_done (record referee { play = play }); whole = whole }

-- the same, if the answer is another one
pub replies_with : {T U E F : Type 0} {old new : RefereeState} {value : T} {IsReply : Reply T} → Replies {E = E} old new (Ok value) IsReply → (other : U) (Also : Reply U) → ((after : AbstractPlay) (outgoing : List Delivery) → IsReply old value after outgoing → Also old other after outgoing) → Replies {E = F} old new (Ok other) Also
replies_with replies other Also turn = record { after = replies.after; outgoing = replies.outgoing; becomes = replies.becomes; whole = turn replies.after replies.outgoing replies.whole }

-- a call continues from what came before it
pub replies_then : {T E : Type 0} {old middle new : RefereeState} {result : Result T E} {IsReply : Reply T} (play : AbstractPlay) (first : List Delivery) → middle ≡ gone_on old play first → Replies middle new result IsReply → (Both : Reply T) → ((value : T) (after : AbstractPlay) (next : List Delivery) → IsReply (gone_on old play first) value after next → Both old value after (first ++ next)) → Replies old new result Both
replies_then {old = old} {new = new} {result = result} {IsReply = IsReply} play first before replies Both join =
    let next = subst (λ middle. Replies middle new result IsReply) before replies in
    record {
      after = next.after;
      outgoing = first ++ next.outgoing;
      becomes = next.becomes ∙ gone_on-twice old play next.after first next.outgoing;
      whole = IfOk-weaker result (λ value. IsReply (gone_on old play first) value next.after next.outgoing) (λ value. Both old value next.after (first ++ next.outgoing)) (λ value. join value next.after next.outgoing) next.whole;
    }

-- and is refused there
pub refused_then : {T U E F : Type 0} {old middle new : RefereeState} {result : Result T E} {IsReply : Reply T} (play : AbstractPlay) (first : List Delivery) → middle ≡ gone_on old play first → Replies middle new result IsReply → (refusal : Result U F) → IsErr refusal → (Also : Reply U) → Replies old new refusal Also
refused_then {old = old} play first before replies refusal is_err Also = record {
  after = replies.after;
  outgoing = first ++ replies.outgoing;
  becomes = replies.becomes ∙ ap (λ referee. gone_on referee replies.after replies.outgoing) before ∙ gone_on-twice old play replies.after first replies.outgoing;
  whole = IfOk-from_err refusal (λ value. Also old value replies.after (first ++ replies.outgoing)) is_err;
}

-- play that has ended is one of the game
pub ended_in_game : {game : AbstractGame} {play : AbstractPlay} (outcome : Outcome) → IsPlayOf game play → IsPlayOf game (ended play outcome)
ended_in_game outcome in_game = record { place = in_game.place; began = in_game.began; counts = in_game.counts; few = λ going. absurd (none-some outcome (sym going)) }

-- and so is play after a refusal that is allowed
pub counted_in_game : {game : AbstractGame} {play : AbstractPlay} (seat : ℕ) → IsPlayOf game play → play.outcome ≡ None → refusals_of play seat < most_refusals → IsPlayOf game (refused play seat)
counted_in_game {play = play} seat in_game going below = record {
  place = in_game.place;
  began = in_game.began;
  counts = length-set play.refusals (seat - 1) _ ∙ in_game.counts;
  few = λ _. All-set (λ count. count ≤ most_refusals) play.refusals (seat - 1) _ (omega (arith, below)) (in_game.few going);
}

-- and so is play that ended with a refusal
pub spent_in_game : {game : AbstractGame} {play : AbstractPlay} (seat : ℕ) (outcome : Outcome) → IsPlayOf game play → IsPlayOf game (ended (refused play seat) outcome)
spent_in_game {play = play} seat outcome in_game = record {
  place = in_game.place;
  began = in_game.began;
  counts = length-set play.refusals (seat - 1) _ ∙ in_game.counts;
  few = λ going. absurd (none-some _ (sym going));
}

-- and play after one more move
pub moved_in_game : {game : AbstractGame} {play : AbstractPlay} {to : AbstractPlace} (moment : ℕ) (pairs : List (ℕ × ℕ)) → IsPlaceOf game to → IsPlayOf game play → IsPlayOf game (moved play moment pairs to)
moved_in_game moment pairs there in_game = record { place = there; began = in_game.began; counts = in_game.counts; few = in_game.few }

module _ {game : AbstractGame} {config : Config} {moment : ℕ} {play : AbstractPlay} {outbox : List (List ℕ)} (is : IsReferee game config moment play outbox) where
  -- a state of play of the game, and messages
  pub still_referee : {T E : Type 0} {new : List (List ℕ)} {result : Result T E} {IsToSay : T → List Delivery → Type 0} {after : AbstractPlay} → QueuesMessages outbox new result IsToSay → IsPlayOf game after → IsReferee game config moment after new
  still_referee says in_game = record { accepted = is.accepted; lawful = is.lawful; counted = is.counted; in_game = in_game; seats = length-says says ∙ is.seats }
