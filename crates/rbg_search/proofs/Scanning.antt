-- What a scan tells of a pattern's question: its answer, and what it had to take up.
use Rattle.std.proofs.Common.{◌≡◌, ◌≢◌, ℕ, ◌+◌, List, [], ◌∷◌, Bool, true, false, refl, arith, Contains, IsTrue, ◌↔◌}
use Rattle.rbg_rules.specs.Meaning.{IsNumbered, Start, AbstractGame, AbstractState, try_move, reach, pattern, SomeWordRuns, Item}
use Rattle.rbg_search.proofs.Common.{HasFewInRow, CountsForced, SomeRunsAfter, IsScanned}
use Rattle.rbg_search.proofs.Afters.{runs_at_end, only_after}
use Rattle.rbg_search.proofs.Forcing.{IsForcedHere, nothing, asked, forced_here, takes_none}
use Rattle.rbg_search.proofs.ForcingSteps.{asked_forced}

pub pattern_pairs : pattern ≢ try_move []
pattern_pairs e = cc

module _ (game : AbstractGame) (numbered : IsNumbered game.rules) (s : AbstractState) (f : Start) where
  -- Some word runs exactly where one ends on the way.
  pub scanned_decides : (ends : Bool) → IsScanned game s f ends → IsTrue ends ↔ SomeWordRuns game s f
  scanned_decides true scanned = ((λ _. runs_at_end game numbered s f [] true scanned.part refl), (λ _. refl))
  scanned_decides false scanned = ((λ e. absurd (false_not_true e)), (λ some. absurd (none (only_after game numbered s f [] false scanned.part refl some))))
    where
      false_not_true : false ≡ true → ⊥
      false_not_true e = cc

      none : SomeRunsAfter game s [] → ⊥
      none some = let (k, under, is) = some.there in omega (arith, under)

  -- The one opening is all that was forced.
  reach_forced : (cut : Bool) (ends : Bool) (old new left most : ℕ) → IsScanned game s f ends → new ≡ old + 1 → CountsForced game cut reach s f old new left most
  reach_forced cut ends old new left most scanned one = record {
    openings = [] ∷ [];
    all = λ o forced. there o (forced_here game numbered cut s f o forced);
    fits = omega (arith, one);
    few = λ o forced. short o (forced_here game numbered cut s f o forced);
  }
    where
      there : (o : List Item) → IsForcedHere game cut s f o → Contains ([] ∷ []) o
      there _ nothing = (0, omega arith, refl)
      there _ (asked {v = v} {p = p} reached is forced) = absurd (scanned.quiet v p reached is)

      short : (o : List Item) → IsForcedHere game cut s f o → HasFewInRow left most o
      short _ nothing = tt
      short _ (asked {v = v} {p = p} reached is forced) = absurd (scanned.quiet v p reached is)

  pub scanned_forced : (cut : Bool) (ends : Bool) (old new left most : ℕ) → IsScanned game s f ends → new ≡ old + 1 → CountsForced game cut pattern s f old new left most
  scanned_forced cut ends old new left most scanned one =
      asked_forced game numbered s f [] ends ends old new new left most cut (scanned_decides ends scanned) scanned.part (reach_forced cut ends old new left most scanned one)
      (record { grows = omega arith; forced = λ cut' _ _. takes_none game numbered cut' pattern s new new left most (omega arith) })
