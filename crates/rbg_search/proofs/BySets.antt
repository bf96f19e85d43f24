-- A flat part by sets, in words of a search.
use Rattle.rbg_base.proofs.Common.{◌≡◌, ℕ, ◌⊎◌, inl, inr, List, [], ◌∷◌, ◌++◌, Bool, sym, subst, arith, Contains, IsTrue, ◌↔◌, Contains-append_left, Contains-push, Contains-push_cases}
use Rattle.rbg_rules.specs.Meaning.{IsNumbered, IsPatternAt, Start, AbstractGame, AbstractState, Applies}
use Rattle.rbg_flat.specs.declared.flat.Flat.{Flat}
use Rattle.rbg_flat.proofs.Common.{Way, IsCandidate, MayEnd, Holds, IsMarked, IsOpen, IsDone, KeepsDone}
use Rattle.rbg_flat.specs.Found.{IsFound as IsFoundBySets, AreFound}
use Rattle.rbg_flat.proofs.ChainLemmas.{candidate_part, met_of, part_candidate, part_of, stays_there}
use Rattle.rbg_flat.proofs.Steps.{all_marked}
use Rattle.rbg_search.proofs.Along.{IsNext, IsFlatPart, at_vertex, IsReached}
use Rattle.rbg_search.specs.internal.BySets.{IsBegunBySets, IsWhole, AreAsked, IsToBeAsked}
use Rattle.rbg_search.proofs.Asking.{no_modifier}
use Rattle.rbg_search.proofs.Closures.{found_next, next_found}
use Rattle.rbg_search.proofs.Takings.{is_candidate, is_reached, no_shift, no_modifier_shift}

pub nothing_in : (x : ℕ × ℕ) → ¬ Contains [] x
nothing_in x (k, under, there) = absurd (omega (arith, under))

module _ (game : AbstractGame) (numbered : IsNumbered game.rules) (s : AbstractState) (f : Start) where
  -- What was found makes the flat part.
  pub found_part : (found : List (ℕ × ℕ)) (ends : Bool) → AreFound game s f found → IsTrue ends ↔ MayEnd game s f → IsFlatPart game s f found ends
  found_part found ends are decides = record {
    next = λ v p. ((λ there. to v p ((are.next v p).0 there)), (λ next. (are.next v p).1 (from v p next)));
    different = are.different;
    may_end = decides;
  }
    where
      to : (v p : ℕ) → IsFoundBySets game s f v p → IsNext game s f v p
      to v p is = found_next game numbered s f v p (record { later = is.later; reached = is_reached game numbered s f v p is.candidate; modifies = is.modifies; applies = is.applies })

      from : (v p : ℕ) → IsNext game s f v p → IsFoundBySets game s f v p
      from v p next =
          let is = next_found game numbered s f v p next in
          record {
            later = is.later;
            candidate = is_candidate game numbered s f v p is.reached (no_modifier_shift game.rules numbered p is.modifies);
            modifies = is.modifies;
            applies = is.applies;
          }

  -- What is to be asked is reached.
  pub asked_reached : (way : Way) (flat : Flat) (v p : ℕ) → IsBegunBySets way game s f flat → IsToBeAsked game flat v p → IsReached game s f v p
  asked_reached way flat v p begun next =
      is_reached game numbered s f v p (part_candidate way game s f v p (no_shift game.rules numbered p next.pattern) (part_of way game numbered s f v p (begun.begun.sound v p next.marked)))

  -- Where nothing is left, each pattern that is reached was asked.
  pub all_asked : (way : Way) (flat : Flat) (pairs : List (ℕ × ℕ)) → IsBegunBySets way game s f flat → IsWhole flat → AreAsked game flat pairs → (v p : ℕ) → IsReached game s f v p → IsPatternAt game.rules p → Contains pairs (v, p)
  all_asked way flat pairs begun whole asked v p reached pattern =
      let candidate : IsCandidate game s f v p = is_candidate game numbered s f v p reached (no_shift game.rules numbered p pattern) in
      let marked : IsMarked flat.sets v p = all_marked way game s f (IsMarked flat.sets) (IsOpen flat.sets) flat.ends begun.begun whole.closed v p (met_of way game numbered s f v p (candidate_part way game s f v p candidate)) in
      asked.all v p pattern (record { marked = marked; closed = whole.closed v p })

-- A pattern that is valid holds.
pub pattern_holds : (game : AbstractGame) → IsNumbered game.rules → (s : AbstractState) (v p : ℕ) (valid : Bool) → IsPatternAt game.rules p → IsTrue valid ↔ Applies game p (at_vertex s v) (at_vertex s v) → IsTrue valid ↔ Holds game s v p
pattern_holds game numbered s v p valid pattern decides = (
  (λ yes. record { to = v; quiet = no_modifier game.rules numbered p pattern; applies = decides.0 yes }),
  (λ holds. decides.1 (stays_there game numbered s v p (no_shift game.rules numbered p pattern) holds)),
)

-- Nothing was asked.
pub asked_none : (game : AbstractGame) (flat : Flat) → ((v p : ℕ) → IsPatternAt game.rules p → ¬ IsDone flat.sets v p) → AreAsked game flat []
asked_none game flat fresh = record {
  done = λ v p there. absurd (nothing_in (v, p) there);
  all = λ v p pattern done. absurd (fresh v p pattern done);
}

-- Nothing more was asked.
pub asked_still : (game : AbstractGame) (old new : Flat) → KeepsDone old.sets new.sets → ((v p : ℕ) → IsPatternAt game.rules p → IsDone new.sets v p → IsDone old.sets v p) → (pairs : List (ℕ × ℕ)) → AreAsked game old pairs → AreAsked game new pairs
asked_still game old new still quiet pairs asked = record {
  done = λ v p there. still v p (asked.done v p there);
  all = λ v p pattern done. asked.all v p pattern (quiet v p pattern done);
}

-- One pattern more was asked.
pub asked_one : (game : AbstractGame) (old new : Flat) (w q : ℕ) → KeepsDone old.sets new.sets → IsDone new.sets w q → ((v p : ℕ) → IsPatternAt game.rules p → IsDone new.sets v p → ((v ≡ w) × (p ≡ q)) ⊎ IsDone old.sets v p) → (pairs : List (ℕ × ℕ)) → AreAsked game old pairs → AreAsked game new (pairs ++ (w, q) ∷ [])
asked_one game old new w q still done quiet pairs asked = record {
  done = λ v p there. elim (Contains-push_cases pairs (w, q) (v, p) there) [
    | inl earlier ↦ still v p (asked.done v p earlier)
    | inr same ↦ subst (λ (x : ℕ × ℕ). IsDone new.sets x.0 x.1) same done
  ];
  all = λ v p pattern is. elim (quiet v p pattern is) [
    | inl this ↦ last v p this.0 this.1
    | inr earlier ↦ Contains-append_left pairs ((w, q) ∷ []) (v, p) (asked.all v p pattern earlier)
  ];
}
  where
    last : (v p : ℕ) → v ≡ w → p ≡ q → Contains (pairs ++ (w, q) ∷ []) (v, p)
    last v p one other =
        subst (λ (x : ℕ). Contains (pairs ++ (w, q) ∷ []) (x, p)) (sym one)
        (subst (λ (x : ℕ). Contains (pairs ++ (w, q) ∷ []) (w, x)) (sym other) (Contains-push pairs (w, q)))

-- What is to be asked is none of what was.
pub not_asked : (game : AbstractGame) (flat : Flat) (v p : ℕ) (pairs : List (ℕ × ℕ)) → AreAsked game flat pairs → IsToBeAsked game flat v p → ¬ Contains pairs (v, p)
not_asked game flat v p pairs asked next there = (asked.done v p there).closed next.is_open
