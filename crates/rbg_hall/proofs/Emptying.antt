-- A match that has begun, between steps.
use Rattle.std.proofs.Common.{◌≡◌, ℕ, ◌-◌, zero, suc, List, [], ◌++◌, length, replicate, get_or, refl, sym, ap, ◌∙◌, subst}
use Rattle.rbg_wire.specs.Streams.{Rest, incomplete}
use Rattle.rbg_rules.specs.Meaning.{AbstractGame}
use Rattle.rbg_match.specs.declared.config.Config.{Config}
use Rattle.rbg_match.proofs.Common.{AreMarks, Delivery, Streams, delivered, queued, MatchState, HasHistory, Opens, seats_of, greetings}
use Rattle.rbg_match.proofs.Delivering.{delivered-queued}
use Rattle.rbg_hall.specs.internal.Running.{AreBetween, IsRunning}

zero_at : (m i : ℕ) → get_or {A = ℕ} (replicate m 0) i 0 ≡ 0
zero_at zero i = refl
zero_at (suc m) zero = refl
zero_at (suc m) (suc i) = zero_at m i

nothing_at : (n i : ℕ) → get_or {A = List ℕ} (replicate n []) i [] ≡ []
nothing_at zero i = refl
nothing_at (suc n) zero = refl
nothing_at (suc n) (suc i) = nothing_at n i

rest_at : (n i : ℕ) → get_or {A = Rest} (replicate n (incomplete [])) i (incomplete []) ≡ incomplete []
rest_at zero i = refl
rest_at (suc n) zero = refl
rest_at (suc n) (suc i) = rest_at n i

-- no part of a message is left in a stream of which nothing has come
between_at_start : (seats : ℕ) → AreBetween (replicate seats (incomplete []))
between_at_start seats = λ seat. rest_at seats (seat - 1)

-- the marks of an outbox with nothing in it
pub no_marks : (seats : ℕ) → AreMarks (replicate seats []) (replicate 8 0)
no_marks seats i within = zero_at 8 i ∙ sym (ap length (nothing_at seats i))

-- an outbox is emptied
pub emptied : (seats : ℕ) (outgoing : List Delivery) (old new : List (List ℕ)) → old ≡ queued seats outgoing → ((before : List (List ℕ)) (told : List Delivery) → old ≡ delivered before told → AreMarks before (replicate 8 0) → new ≡ before) → new ≡ replicate seats []
emptied seats outgoing old new has cut = cut (replicate seats []) outgoing (has ∙ sym (delivered-queued seats outgoing)) (no_marks seats)

-- a match that opened, whose outbox was emptied
pub opened_running : (game : AbstractGame) (text : List ℕ) (config : Config) (at : ℕ) (playing : MatchState) (outbox new : List (List ℕ)) → Opens game text config at playing outbox → HasHistory playing → ((before : List (List ℕ)) (told : List Delivery) → outbox ≡ delivered before told → AreMarks before (replicate 8 0) → new ≡ before) → IsRunning playing new
opened_running game text config at playing outbox new opens has cut = record {
  empty = emptied (seats_of game) (greetings text config game.players ++ opens.opening) outbox new opens.told cut ∙ ap (λ (one : AbstractGame). replicate (seats_of one) []) (sym opens.of_game);
  history = λ works. has;
  between = λ works going. subst AreBetween (sym (ap (λ (one : Streams). one.rests) opens.streams)) (between_at_start (seats_of game));
}
