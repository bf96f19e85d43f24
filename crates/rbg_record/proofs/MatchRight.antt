-- The record of a match is right.
use Rattle.rbg_base.proofs.Common.{◌≡◌, ℕ, List, [], ◌∷◌, ◌++◌, map, Option, Some, None, Ok, refl, sym, ap, ◌∙◌, subst, arith, map-append, Global, Vec}
use Rattle.rbg_wire.specs.declared.outcome.Outcome.{Outcome}
use Rattle.rbg_wire.specs.declared.outcome.Outcome.TheVariants.{Finished, Time, Refusals, Gone, Heavy}
use Rattle.rbg_rules.specs.Meaning.{AbstractGame, AbstractPlace}
use Rattle.rbg_match.specs.declared.config.Config.{Config}
use Rattle.rbg_match.specs.declared.made.Made.{Made}
use Rattle.rbg_match.specs.History as history
use Rattle.rbg_match.proofs.Common.{LeadsTo, MadeInTurn, FitsOutcome, MatchState, HasHistory, AbstractPlay}
use Rattle.rbg_record.proofs.Common.{MatchesAreRight, WritesRecord, record_of, plain_record_of, plain_move, AbstractRecord, plain, timed, Spells, turn_config, recorded_play, made_at, IsRight}
use Rattle.rbg_record.proofs.Fitting.{fits_place}

-- What a record leaves out of a config and of the state of play has no part in its history.
turns_told : {config : Config} {began last : ℕ} {moves : List Made} → MadeInTurn config began moves last → MadeInTurn (turn_config config.turn_ms) began moves last
turns_told history.nothing = history.nothing
turns_told (history.by_keeper turns made keeper same) = history.by_keeper (turns_told turns) made keeper same
turns_told (history.by_player turns made player turn) = history.by_player (turns_told turns) made player turn

fits_told : (game : AbstractGame) (config : Config) (play : AbstractPlay) (last moment : ℕ) (told outcome : Option Outcome) →
    FitsOutcome game config play last moment outcome →
    FitsOutcome game (turn_config config.turn_ms) (recorded_play play.made told play.place play.turn_began) last moment outcome
fits_told game config play last moment told None fits = fits
fits_told game config play last moment told (Some (Finished scores)) fits = fits
fits_told game config play last moment told (Some (Time player)) fits = fits
fits_told game config play last moment told (Some (Refusals seat)) fits = fits
fits_told game config play last moment told (Some (Gone seat)) fits = fits
fits_told game config play last moment told (Some Heavy) fits = fits

pub two_right : (state : MatchState) → HasHistory state → IsRight state.game (timed (record_of state))
two_right state has = record {
  players = refl;
  place = state.play.place;
  turn_began = state.play.turn_began;
  history = record {
    lawful = record { turn_some = has.lawful.turn_some; turn_most = has.lawful.turn_most; refusals_most = omega arith };
    counted = has.counted;
    leads = has.leads;
    last = has.last;
    in_turn = turns_told has.in_turn;
    fits = fits_told state.game state.config state.play has.last state.streams.moment state.play.outcome state.play.outcome has.fits;
  };
}

-- Moves lead to the same place without their moments.
leads_plain : {game : AbstractGame} {moves : List Made} {place : AbstractPlace} → LeadsTo game moves place → LeadsTo game (map (made_at 0) (map plain_move moves)) place
leads_plain history.none = history.none
leads_plain {game} (history.more {moves = moves} {to = to} leads made is legal few) =
    let parts : map (made_at 0) (map plain_move (moves ++ made ∷ [])) ≡ map (made_at 0) (map plain_move moves) ++ made_at 0 (plain_move made) ∷ [] =
    ap (map (made_at 0)) (map-append plain_move moves (made ∷ [])) ∙ map-append (made_at 0) (map plain_move moves) (plain_move made ∷ []) in
    subst (λ (ms : List Made). LeadsTo game ms to) (sym parts) (history.more (leads_plain leads) (made_at 0 (plain_move made)) is legal few)

pub one_right : (state : MatchState) → HasHistory state → IsRight state.game (plain (plain_record_of state))
one_right state has = record {
  place = state.play.place;
  leads = leads_plain has.leads;
  fits = fits_place state.game state.config state.play has.last state.streams.moment state.play.outcome has.fits;
}

pub writes_record : {E : Type 0} (state : MatchState) (told : AbstractRecord) (bytes : Vec ℕ Global) → (HasHistory state → Spells bytes.items told) → (HasHistory state → IsRight state.game told) → WritesRecord {E = E} state told (Ok bytes)
writes_record state told bytes spelled right = record { spelled = spelled; right = λ has. record { told = told; spells = spelled has; right = right has } }

pub matches_right : MatchesAreRight
matches_right = record { two = two_right; one = one_right }
