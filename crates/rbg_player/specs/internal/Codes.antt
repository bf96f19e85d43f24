-- Players as pairs and sums of numbers and lists, one to one. Proofs use them to distinguish players.
use Rattle.std.specs.Prelude.{◌≡◌, ◌⊎◌, ◌==◌, if◌then◌else◌, ℕ, refl}
use mathlib.Core.Logic.{inl, inr}
use base.Stored.{coded_unit}
use Rattle.std.specs.Coded.{Coded, coded_ℕ, coded×, coded⊎, code_by}
use Rattle.rbg_wire.specs.declared.outcome.Outcome.{Outcome}
use Rattle.rbg_wire.specs.Codes.{coded_outcome, coded_rest}
use Rattle.rbg_wire.specs.Streams.{Rest}
use Rattle.rbg_rules.specs.Meaning.{AbstractGame, AbstractPlace}
use Rattle.rbg_rules.specs.Codes.{coded_game}
use Rattle.rbg_rules.specs.PlaceCodes.{coded_place}
use Rattle.rbg_player.specs.declared.error.PlayerError.{PlayerError}
use Rattle.rbg_player.specs.declared.error.PlayerError.TheVariants as errors
use Rattle.rbg_player.specs.Players.{
  AbstractSeat,
  AbstractPlayer,
  Stage,
  unnamed,
  named,
  seated,
  playing,
  ended,
  failed,
}

abbrev pub coded_seat : Coded AbstractSeat
coded_seat = code_by (ℕ × (AbstractGame × AbstractPlace))
    (coded× coded_ℕ (coded× coded_game coded_place))
    (λ s. (s.player, (s.game, s.place)))
    (λ p. record { player = p.0; game = p.1.0; place = p.1.1 })
    (λ _. refl)

abbrev error_number : PlayerError → ℕ
error_number errors.BadMessage = 1
error_number errors.NotLegal = 2
error_number errors.Over = 3
error_number errors.Memory = 4
error_number errors.NoSeat = 5

abbrev error_numbered : ℕ → PlayerError
error_numbered n =
    if n == 1 then errors.BadMessage
    else if n == 2 then errors.NotLegal
    else if n == 3 then errors.Over
    else if n == 4 then errors.Memory
    else errors.NoSeat

pub error_numbered-number : (e : PlayerError) → error_numbered (error_number e) ≡ e
error_numbered-number errors.BadMessage = refl
error_numbered-number errors.NotLegal = refl
error_numbered-number errors.Over = refl
error_numbered-number errors.Memory = refl
error_numbered-number errors.NoSeat = refl

abbrev coded_error : Coded PlayerError
coded_error = code_by ℕ coded_ℕ error_number error_numbered error_numbered-number

-- The parts of a stage: without a number, or by the kind.
abbrev StageParts : Type 0
StageParts = Unit {0} ⊎ (ℕ ⊎ (AbstractSeat ⊎ (AbstractSeat ⊎ (Outcome ⊎ PlayerError))))

abbrev stage_parts : Stage → StageParts
stage_parts unnamed = inl tt
stage_parts (named player) = inr (inl player)
stage_parts (seated seat) = inr (inr (inl seat))
stage_parts (playing seat) = inr (inr (inr (inl seat)))
stage_parts (ended outcome) = inr (inr (inr (inr (inl outcome))))
stage_parts (failed error) = inr (inr (inr (inr (inr error))))

abbrev stage_from : StageParts → Stage
stage_from (inl _) = unnamed
stage_from (inr (inl player)) = named player
stage_from (inr (inr (inl seat))) = seated seat
stage_from (inr (inr (inr (inl seat)))) = playing seat
stage_from (inr (inr (inr (inr (inl outcome))))) = ended outcome
stage_from (inr (inr (inr (inr (inr error))))) = failed error

pub stage_from-parts : (s : Stage) → stage_from (stage_parts s) ≡ s
stage_from-parts unnamed = refl
stage_from-parts (named player) = refl
stage_from-parts (seated seat) = refl
stage_from-parts (playing seat) = refl
stage_from-parts (ended outcome) = refl
stage_from-parts (failed error) = refl

abbrev coded_stage : Coded Stage
coded_stage = code_by StageParts
    (coded⊎ coded_unit (coded⊎ coded_ℕ (coded⊎ coded_seat (coded⊎ coded_seat (coded⊎ coded_outcome coded_error)))))
    stage_parts
    stage_from
    stage_from-parts

abbrev pub coded_player : Coded AbstractPlayer
coded_player = code_by (Stage × Rest)
    (coded× coded_stage coded_rest)
    (λ p. (p.stage, p.rest))
    (λ p. record { stage = p.0; rest = p.1 })
    (λ _. refl)
