-- Outcomes that fit a place, with moments and without.
use Rattle.std.proofs.Common.{◌≡◌, ℕ, ◌≤◌, List, Option, Some, None, refl, arith}
use Rattle.rbg_wire.specs.declared.outcome.Outcome.{Outcome}
use Rattle.rbg_wire.specs.declared.outcome.Outcome.TheVariants.{Finished, Time, Refusals, Gone, Heavy}
use Rattle.rbg_rules.specs.Meaning.{AbstractGame, AbstractPlace}
use Rattle.rbg_record.specs.declared.entry.Entry.TheVariants.{End}
use Rattle.rbg_match.specs.declared.config.Config.{Config}
use Rattle.rbg_match.specs.declared.made.Made.{Made}
use Rattle.rbg_match.proofs.Common.{FitsOutcome, AbstractPlay}
use Rattle.rbg_record.specs.Entries.{unwritten_moment}
use Rattle.rbg_record.proofs.Common.{recorded_play, turn_config, FitsPlace}

-- without the moments
pub fits_place : (game : AbstractGame) (config : Config) (play : AbstractPlay) (last at : ℕ) (outcome : Option Outcome) → FitsOutcome game config play last at outcome → FitsPlace game play.place outcome
fits_place game config play last at None fits = fits.0.0
fits_place game config play last at (Some (Finished scores)) fits = (fits.0, fits.1)
fits_place game config play last at (Some (Time player)) fits = (fits.0.0, fits.1)
fits_place game config play last at (Some (Refusals player)) fits = (fits.0.0, fits.2, fits.3)
fits_place game config play last at (Some (Gone player)) fits = (fits.0.0, fits.2, fits.3)
fits_place game config play last at (Some Heavy) fits = tt

-- with the moments that version 1 leaves out
pub fits_unwritten : (game : AbstractGame) (moves : List Made) (place : AbstractPlace) (outcome : Option Outcome) → FitsPlace game place outcome → FitsOutcome game (turn_config 1) (recorded_play moves outcome place 0) 0 (unwritten_moment (End outcome)) outcome
fits_unwritten game moves place None fits = ((fits, refl), (omega arith, omega arith))
fits_unwritten game moves place (Some (Finished scores)) fits = (fits.0, fits.1, refl)
fits_unwritten game moves place (Some (Time player)) fits = ((fits.0, refl), fits.1, omega arith)
fits_unwritten game moves place (Some (Refusals player)) fits = ((fits.0, refl), (omega arith, omega arith), fits.1, fits.2)
fits_unwritten game moves place (Some (Gone player)) fits = ((fits.0, refl), (omega arith, omega arith), fits.1, fits.2)
fits_unwritten game moves place (Some Heavy) fits = (omega arith, omega arith)

-- the moves, the outcome and the refusals that a state of play holds are no part of it; the turn began with the last move
pub fits_same : (game : AbstractGame) (config other : Config) (play : AbstractPlay) (moves : List Made) (last at : ℕ) (outcome told : Option Outcome) → config.turn_ms ≡ other.turn_ms → FitsOutcome game config play last at outcome → FitsOutcome game other (recorded_play moves told play.place last) last at outcome
fits_same game config other play moves last at None told same fits = ((fits.0.0, refl), (fits.1.0, omega (arith, fits.1.1)))
fits_same game config other play moves last at (Some (Finished scores)) told same fits = fits
fits_same game config other play moves last at (Some (Time player)) told same fits = ((fits.0.0, refl), fits.1, omega (arith, fits.2))
fits_same game config other play moves last at (Some (Refusals player)) told same fits = ((fits.0.0, refl), (fits.1.0, omega (arith, fits.1.1)), fits.2, fits.3)
fits_same game config other play moves last at (Some (Gone player)) told same fits = ((fits.0.0, refl), (fits.1.0, omega (arith, fits.1.1)), fits.2, fits.3)
fits_same game config other play moves last at (Some Heavy) told same fits = (fits.0, omega (arith, fits.1))

-- an outcome that fits has a moment that is not before the last one
pub fits_later : (game : AbstractGame) (config : Config) (play : AbstractPlay) (last at : ℕ) (outcome : Option Outcome) → FitsOutcome game config play last at outcome → last ≤ at
fits_later game config play last at None fits = fits.1.0
fits_later game config play last at (Some (Finished scores)) fits = omega (arith, fits.2)
fits_later game config play last at (Some (Time player)) fits = omega (arith, fits.2)
fits_later game config play last at (Some (Refusals player)) fits = fits.1.0
fits_later game config play last at (Some (Gone player)) fits = fits.1.0
fits_later game config play last at (Some Heavy) fits = fits.0
