-- What the parts of an opened match make.
use Rattle.std.proofs.Common.{◌≡◌, ℕ, zero, suc, false, List, [], ◌∷◌, ◌++◌, length, replicate, refl, ap, sym, ◌∙◌, subst}
use Rattle.rbg_wire.specs.Streams.{Stream, incomplete}
use Rattle.rbg_rules.specs.Meaning.{AbstractGame}
use Rattle.rbg_match.proofs.Common.{Config, IsWithinLimits, message_limit, Delivery, AbstractPlay, play_at_start, PlaysOn, seats_of, Streams, counted_first, streams_at_start, AreNew, rests_of, greetings, MatchState, Opens, match_begun, referee_at_start, RefereeState, gone_on}
use Rattle.rbg_match.proofs.Delivering.{delivered-append, delivered-queued}

-- the rests of new inboxes
rests_of_replicate : (seats : ℕ) (inbox : Stream) → rests_of (replicate seats inbox) ≡ replicate seats inbox.rest
rests_of_replicate zero inbox = refl
rests_of_replicate (suc seats) inbox = ap (λ rests. inbox.rest ∷ rests) (rests_of_replicate seats inbox)

pub rests_of_new : (seats : ℕ) (inboxes : List Stream) → AreNew seats inboxes → rests_of inboxes ≡ replicate seats (incomplete [])
rests_of_new seats inboxes new = ap rests_of new ∙ rests_of_replicate seats (record { limit = message_limit; items = []; rest = incomplete [] })

-- the referee of greeted seats plays on from the start, and begins a match
pub opens_so : (game : AbstractGame) (text : List ℕ) (config : Config) (now at : ℕ) (first on : RefereeState) (play : AbstractPlay) (opening : List Delivery) (state : MatchState) (outbox : List (List ℕ)) → IsWithinLimits config → at ≡ counted_first now → first ≡ referee_at_start game text config at → on ≡ gone_on first play opening → PlaysOn first.game first.moment 0 first.play play opening → state ≡ match_begun on → outbox ≡ on.outbox → Opens game text config now state outbox
opens_so game text config now at first on play opening state outbox lawful moment starts goes plays begun queue =
    let seats = seats_of game in
    let greets = greetings text config game.players in
    let on_is : on ≡ gone_on (referee_at_start game text config at) play opening = goes ∙ ap (λ (one : RefereeState). gone_on one play opening) starts in
    let state_is : state ≡ match_begun (gone_on (referee_at_start game text config at) play opening) = begun ∙ ap match_begun on_is in
    let from_start : PlaysOn game at 0 (play_at_start game at) play opening = subst (λ (one : RefereeState). PlaysOn one.game one.moment 0 one.play play opening) starts plays in
    let streams : ◌≡◌ {A = Streams} (record { moment = at; rests = replicate seats (incomplete []) }) (streams_at_start seats now) =
    ap (λ (moment : ℕ). let s : Streams = record { moment = moment; rests = replicate seats (incomplete []) } in s) moment in
    record {
      lawful = lawful;
      of_game = ap (λ (one : MatchState). one.game) state_is;
      of_config = ap (λ (one : MatchState). one.config) state_is;
      begins = ap (λ (one : MatchState). one.began) state_is ∙ moment;
      works = ap (λ (one : MatchState). one.failed) state_is;
      streams = ap (λ (one : MatchState). one.streams) state_is ∙ streams;
      opening = opening;
      opens = subst (λ (one : AbstractPlay). PlaysOn game (counted_first now) 0 (play_at_start game (counted_first now)) one opening) (sym (ap (λ (one : MatchState). one.play) state_is)) (subst (λ (m : ℕ). PlaysOn game m 0 (play_at_start game m) play opening) moment from_start);
      told =
          queue ∙ ap (λ (one : RefereeState). one.outbox) on_is ∙ delivered-append (replicate seats []) greets opening ∙ delivered-queued seats (greets ++ opening);
    }

-- the match around a referee whose outbox was exchanged
pub begun_so : (referee on : RefereeState) (seats began : ℕ) (inboxes : List Stream) (queues : List (List ℕ)) → on ≡ record referee { outbox = queues } → began ≡ on.moment → seats ≡ length referee.outbox → length referee.outbox ≡ seats_of referee.game → AreNew seats inboxes → ◌≡◌ {A = MatchState} (record { game = on.game; config = on.config; began = began; play = on.play; streams = record { moment = on.moment; rests = rests_of inboxes }; failed = false }) (match_begun referee)
begun_so referee on seats began inboxes queues own same all many new =
    rw (same, own)
    (ap (λ rests. let state : MatchState = record { game = referee.game; config = referee.config; began = referee.moment; play = referee.play; streams = record { moment = referee.moment; rests = rests }; failed = false } in state)
    (rests_of_new seats inboxes new ∙ ap (λ (n : ℕ). replicate n (incomplete [])) (all ∙ many)))
