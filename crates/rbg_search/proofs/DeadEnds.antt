-- A pattern in which nothing goes on from its beginning.
use Rattle.std.proofs.Common.{ℕ, [], Bool, arith}
use Rattle.rbg_rules.specs.Meaning.{IsNumbered, Start, AbstractGame, AbstractState}
use Rattle.rbg_flat.proofs.Common.{IsDeadEnd, AreFound}
use Rattle.rbg_search.specs.internal.Straight.{IsScanned, IsTold}
use Rattle.rbg_search.proofs.BySets.{found_part, nothing_in}
use Rattle.rbg_search.proofs.Takings.{is_candidate, no_shift, candidates_met}

-- Its flat part is whole: it has no modifier and no pattern.
dead_scanned : (game : AbstractGame) → IsNumbered game.rules → (s : AbstractState) (f : Start) (many : ℕ) (ends : Bool) → IsDeadEnd game s f many ends → IsScanned game s f ends
dead_scanned game numbered s f many ends dead = record {
  part = found_part game numbered s f [] ends none dead.may_end;
  quiet = λ v p reached pattern. dead.no_pattern v p (is_candidate game numbered s f v p reached (no_shift game.rules numbered p pattern)) pattern;
}
  where
    none : AreFound game s f []
    none = record {
      next = λ v p. (λ there. absurd (nothing_in (v, p) there), λ is. absurd (dead.no_modifier v p is.candidate is.modifies));
      different = λ i j d less within. absurd (omega (arith, less, within));
    }

pub dead_told : (game : AbstractGame) → IsNumbered game.rules → (s : AbstractState) (f : Start) (many : ℕ) (ends : Bool) → IsDeadEnd game s f many ends → IsTold game s f ends many
dead_told game numbered s f many ends dead = record { scanned = dead_scanned game numbered s f many ends dead; taken = candidates_met game numbered s f (Unit {0}) (Unit {0}) many dead.candidates dead.few }
