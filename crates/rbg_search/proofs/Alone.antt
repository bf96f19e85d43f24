-- A flat part that is one modifier alone.
use Rattle.rbg_base.proofs.Common.{ℕ, zero, suc, ◌*◌, ◌<◌, ◌≤◌, List, [], ◌∷◌, Bool, refl, sym, subst, inl, inr, arith, Contains, Decides, Contains-push, Contains-push_cases}
use Rattle.std.proofs.lemmas.Nat.{rows as products}
use Rattle.rbg_rules.specs.Meaning.{Expression, IsNumbered, IsPatternAt, Start, Ends, AbstractGame, AbstractState}
use Rattle.rbg_shifts.specs.Leaps.{IsShiftAt}
use Rattle.rbg_auto.specs.Steps.{AreAllThatFollow}
use Rattle.rbg_search.proofs.Along.{IsFlatPart, IsPositionOf, IsReached, MeetsAll, IsTrialAt, IsPart}
use Rattle.rbg_state.specs.declared.state.trials.Trial.TheVariants.{Modifies}
use Rattle.rbg_flat.specs.Found.{HasCandidates}
use Rattle.rbg_search.proofs.Plains.{plain_none, plain_more}
use Rattle.rbg_search.proofs.Asking.{no_modifier}
use Rattle.rbg_search.proofs.Takings.{no_modifier_shift, part_pairs}
use Rattle.rbg_search.proofs.Starts.{follower_position}
use Rattle.rbg_search.proofs.Meetings.{meets_none, meets_one}
use Rattle.rbg_search.proofs.Parts.{begin_part, modifier_part, all_met, whole_part}

pub none_there : (q : ℕ × ℕ) → ¬ Contains [] q
none_there q (k, under, is) = absurd (omega (arith, under))

-- The one position that may come next stands in the rules.
pub only_position : (rules : Expression) → IsNumbered rules → (f : Start) (p : ℕ) → AreAllThatFollow rules f (p ∷ []) → IsPositionOf rules p
only_position rules numbered f p follow = follower_position rules numbered f p ((follow.exact p).0 (Contains-push [] p))

-- There is a pair of one of so many and one of so many others.
pub some_pair : (a b k l : ℕ) → k < a → l < b → 1 ≤ a * b
some_pair (suc a) (suc b) k l first second = grind (arith, products)
some_pair (suc a) zero k l first second = absurd (omega (arith, second))
some_pair zero b k l first second = absurd (omega (arith, first))

module _ (game : AbstractGame) (numbered : IsNumbered game.rules) (s : AbstractState) (f : Start) (p : ℕ) (ends : Bool) (follow : AreAllThatFollow game.rules f (p ∷ [])) (decides : Decides ends (Ends game.rules f [])) (modifies : IsTrialAt game s s.vertex p Modifies) where
  -- The modifier is met, done and found.
  alone : List (ℕ × ℕ)
  alone = (s.vertex, p) ∷ []

  meets : MeetsAll [] alone s.vertex (p ∷ [])
  unfolding alone
  meets = meets_one [] [] alone s.vertex p [] (meets_none [] s.vertex) (inr (none_there (s.vertex, p), refl))

  part : IsPart game s f alone alone alone ends
  unfolding alone
  part = modifier_part game s f alone [] [] ends s.vertex p (begin_part game s f alone (p ∷ []) ends meets follow decides) (Contains-push [] (s.vertex, p)) (none_there (s.vertex, p)) modifies

  pub alone_whole : IsFlatPart game s f ((s.vertex, p) ∷ []) ends
  unfolding alone
  alone_whole = whole_part game s f numbered alone alone ends part

  pub alone_met : (v q : ℕ) → IsReached game s f v q → Contains {X = ℕ × ℕ} ((s.vertex, p) ∷ []) (v, q)
  unfolding alone
  alone_met v q = all_met game s f numbered alone alone ends part v q

  no_shift_alone : ¬ IsShiftAt game.rules p
  no_shift_alone other = no_modifier_shift game.rules numbered p modifies.0 other

  pub alone_pairs : HasCandidates game s f 1
  unfolding alone
  alone_pairs = part_pairs game numbered s f alone alone ends 1 part (plain_more game.rules [] 0 s.vertex p (plain_none game.rules) (none_there (s.vertex, p)) no_shift_alone)

  -- It is no pattern.
  pub alone_quiet : (w q : ℕ) → Contains {X = ℕ × ℕ} ((s.vertex, p) ∷ []) (w, q) → IsPatternAt game.rules q → Contains {X = ℕ × ℕ} [] (w, q)
  alone_quiet w q there pattern = elim (Contains-push_cases [] (s.vertex, p) (w, q) there) [
    | inl none ↦ none
    | inr same ↦ absurd (no_modifier game.rules numbered p (subst (λ (x : ℕ × ℕ). IsPatternAt game.rules x.1) (sym same) pattern) modifies.0)
  ]
