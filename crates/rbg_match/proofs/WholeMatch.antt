-- A match that opens and handles events in turn has a transcript.
use Rattle.rbg_base.proofs.Common.{◌≡◌, ℕ, List, [], ◌++◌, length, refl, sym, ap, ◌∙◌, subst, replicate, length-replicate}
use Rattle.rbg_rules.specs.Meaning.{AbstractGame}
use Rattle.rbg_match.proofs.Common.{Config, Delivery, queued, delivered, seats_of, timed_inputs_of, HandlesAll, greetings, MatchState, Opens, SteppedIsTranscript}
use Rattle.rbg_match.proofs.Delivering.{delivered-queued, delivered-queued_more, length-delivered}
use Rattle.rbg_match.proofs.AllEvents.{all_handled}

length-queued : (seats : ℕ) (outgoing : List Delivery) → length (queued seats outgoing) ≡ seats
length-queued seats outgoing = ap length (sym (delivered-queued seats outgoing)) ∙ length-delivered (replicate seats []) outgoing ∙ length-replicate seats []

-- an opened match has an outbox of its seats
pub seats_of_opened : (game : AbstractGame) (text : List ℕ) (config : Config) (now : ℕ) (state : MatchState) (outbox : List (List ℕ)) → Opens game text config now state outbox → length outbox ≡ seats_of state.game
seats_of_opened game text config now state outbox opens =
    ap length opens.told ∙ length-queued (seats_of game) (greetings text config game.players ++ opens.opening) ∙ ap seats_of (sym opens.of_game)

-- a match that opens and handles these events has a transcript
pub stepped_is_transcript : SteppedIsTranscript
stepped_is_transcript game text config now events old new before after opens steps =
    let handled = all_handled steps in
    let in_game = subst (λ one. HandlesAll one old.config old.play (timed_inputs_of old.streams events) new.play handled.outgoing) opens.of_game handled.handles in
    let with_config = subst (λ one. HandlesAll game one old.play (timed_inputs_of old.streams events) new.play handled.outgoing) opens.of_config in_game in
    let from_start = subst (λ streams. HandlesAll game config old.play (timed_inputs_of streams events) new.play handled.outgoing) opens.streams with_config in (
      greetings text config game.players ++ opens.opening ++ handled.outgoing,
      record {
        opened = old.play;
        opening = opens.opening;
        replies = handled.outgoing;
        opens = opens.opens;
        goes_on = from_start;
        whole = refl;
      },
      handled.told ∙ ap (λ box. delivered box handled.outgoing) opens.told ∙ delivered-queued_more (seats_of game) (greetings text config game.players ++ opens.opening) handled.outgoing,
    )
