-- A message that has a fault is not accepted.
use Rattle.std.proofs.Common.{◌≡◌, ◌≢◌, List, true, sym, subst, ◌∙◌, refl}
use Rattle.std.proofs.lemmas.Bool.{true≢false}
use Rattle.rbg_wire.specs.Messages.{AbstractMessage}
use Rattle.rbg_game.proofs.OneGame.{one_game_law}
use Rattle.rbg_player.specs.declared.error.PlayerError.{PlayerError}
use Rattle.rbg_player.specs.declared.error.PlayerError.TheVariants as errors
use Rattle.rbg_player.specs.Players.{Stage}
use Rattle.rbg_player.specs.Hearing.{IsPlayerOf, Accepts, is_named, is_seated, begins, passes, answers, is_refused, ends, is_in_place, HasFault, out_of_place, no_game, no_player, illegal, heavy_to_try, heavy_to_list, memory, no_seat}

-- a message that is accepted is in place
in_place : {stage after : Stage} {message : AbstractMessage} {outgoing : List AbstractMessage} → Accepts stage message after outgoing → is_in_place stage message ≡ true
in_place is_named = refl
in_place (is_seated loads is) = refl
in_place begins = refl
in_place (passes legal none) = refl
in_place (answers legal has one few) = refl
in_place is_refused = refl
in_place ends = refl

pub not_heard : {stage after : Stage} {message : AbstractMessage} {error : PlayerError} {outgoing : List AbstractMessage} → HasFault stage message error → error ≢ errors.Memory → error ≢ errors.Over → Accepts stage message after outgoing → ⊥
not_heard (out_of_place is) some near heard = true≢false (sym (in_place heard) ∙ is)
not_heard (no_game none) some near (is_seated {loaded = loaded} loads is) = none loaded loads
not_heard (no_player {player = player} {text = text} {loaded = game} loads lacks) some near (is_seated {loaded = loaded} other is) = lacks (subst (λ g. IsPlayerOf g player) (one_game_law text loaded game other loads) is)
not_heard (illegal none) some near (passes {to = to} legal nothing) = none to legal
not_heard (illegal none) some near (answers {to = to} legal has one few) = none to legal
not_heard (heavy_to_try hard) some near heard = near refl
not_heard (heavy_to_list legal mover hard) some near heard = near refl
not_heard memory some near heard = some refl
not_heard no_seat some near heard = elim heard [ ]
