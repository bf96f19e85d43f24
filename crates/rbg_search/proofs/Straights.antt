-- A scan along a straight line, step by step.
use Rattle.rbg_base.proofs.Common.{◌≡◌, ◌≢◌, ℕ, suc, ◌<◌, ◌≤◌, List, [], ◌∷◌, ◌++◌, length, ◌==◌, Bool, true, false, ◌||◌, refl, sym, subst, append-nil, arith, All, AllPairs, Contains, Decides, All-nil, All-cons, All-head, All-push, All-weaker, All-contains, Contains-push, nat_tests}
use Rattle.std.proofs.lemmas.List.Quantifiers.{all_pairs_push}
use Rattle.rbg_rules.specs.Meaning.{Expression, IsNumbered, IsPatternAt, Start, after, Ends, AbstractGame, AbstractState}
use Rattle.rbg_auto.specs.Steps.{AreAllThatFollow}
use Rattle.rbg_search.proofs.Along.{MeetsAll, IsTrialAt, IsPart, CountsPlain, at_vertex}
use Rattle.rbg_search.proofs.Common.{most_candidates, IsScanned, IsScanning, IsTold}
use Rattle.rbg_state.specs.declared.state.trials.Trial.{Trial}
use Rattle.rbg_state.specs.declared.state.trials.Trial.TheVariants.{Invalid, Modifies, LeadsTo}
use Rattle.rbg_search.proofs.Plains.{plain_none}
use Rattle.rbg_search.proofs.Takings.{scanned_met}
use Rattle.rbg_search.proofs.Parts.{begin_part, invalid_part, leads_part, all_met, whole_part}

-- One pair is met.
meets_one : (xs : List (ℕ × ℕ)) (v p : ℕ) → MeetsAll xs (xs ++ (v, p) ∷ []) v (p ∷ [])
meets_one xs v p = record {
  more = (v, p) ∷ [];
  grown = refl;
  only = All-cons (λ (q : ℕ × ℕ). (q.0 ≡ v) × Contains (p ∷ []) q.1) (v, p) [] (refl, Contains-push [] p) (All-nil (λ (q : ℕ × ℕ). (q.0 ≡ v) × Contains (p ∷ []) q.1));
  all = All-cons (λ (r : ℕ). Contains (xs ++ (v, p) ∷ []) (v, r)) p [] (Contains-push xs (v, p)) (All-nil (λ (r : ℕ). Contains (xs ++ (v, p) ∷ []) (v, r)));
}

-- The one element of a list.
pub one_within : (P : ℕ → Type 0) (ps : List ℕ) (p : ℕ) → ps ≡ p ∷ [] → All P ps → P p
one_within P ps p one all = All-head P p [] (subst (All P) one all)

pub is_empty_list : (ps : List ℕ) → (length ps == 0) ≡ true → ps ≡ []
is_empty_list [] e = refl
is_empty_list (p ∷ ps) e = absurd (none (length ps) e)
  where
    none : (n : ℕ) → (suc n == 0) ≡ true → ⊥
    none n e = grind (arith, nat_tests)

-- What becomes of an action at a vertex is the same wherever the semi-state's own vertex is.
pub trial_there : (game : AbstractGame) (s : AbstractState) (u v p : ℕ) (o o' : Trial) → o ≡ o' → IsTrialAt game s v p o → IsTrialAt game (at_vertex s u) v p o'
trial_there game s u v p o o' is trial = moved o' (subst (IsTrialAt game s v p) is trial)
  where
    moved : (x : Trial) → IsTrialAt game s v p x → IsTrialAt game (at_vertex s u) v p x
    moved Invalid fails = fails
    moved Modifies valid = valid
    moved (LeadsTo w) (leads, only) = (
      record { quiet = leads.quiet; applies = leads.applies },
      (λ x other. only x (record { quiet = other.quiet; applies = other.applies })),
    )

plain_begun : (shifts : Bool) (rules : Expression) → CountsPlain shifts rules [] 0
plain_begun true rules = refl
plain_begun false rules = plain_none rules

module _ {game : AbstractGame} {s : AbstractState} {f : Start} where
  pub begin_scan : (shifts : Bool) (ps : List ℕ) (p : ℕ) (ends : Bool) → ps ≡ p ∷ [] → AreAllThatFollow game.rules f ps → Decides ends (Ends game.rules f []) → IsScanning game s f s.vertex p ends shifts 0
  begin_scan shifts ps p ends one follow decides = record {
    done = [];
    plain = plain_begun shifts game.rules;
    different = λ i j d less within. absurd (omega (arith, less, within));
    before = All-nil (λ (q : ℕ × ℕ). q.1 < p);
    part = begin_part game s f ((s.vertex, p) ∷ []) (p ∷ []) ends (meets_one [] s.vertex p) (subst (λ (qs : List ℕ). AreAllThatFollow game.rules f qs) one follow) decides;
    quiet = All-nil (λ q. ¬ IsPatternAt game.rules q.1);
  }

  module _ {v p : ℕ} {ends shifts : Bool} {many : ℕ} (scanning : IsScanning game s f v p ends shifts many) (plain : ¬ IsPatternAt game.rules p) where
    quiet_on : All (λ q. ¬ IsPatternAt game.rules q.1) (scanning.done ++ (v, p) ∷ [])
    quiet_on = All-push (λ q. ¬ IsPatternAt game.rules q.1) scanning.done (v, p) scanning.quiet plain

    -- The pair stands after all that were tried, so it is none of them.
    once : AllPairs (λ a b. a ≢ b) (scanning.done ++ (v, p) ∷ [])
    once = all_pairs_push (λ a b. a ≢ b) scanning.done (v, p) scanning.different (λ k d under same. not_before (subst (λ (q : ℕ × ℕ). q.1 < p) same (scanning.before k d under)))
      where
        not_before : p < p → ⊥
        not_before less = absurd (omega (arith, less))

    pub not_done : ¬ Contains scanning.done (v, p)
    not_done there = not_before (All-contains (λ (q : ℕ × ℕ). q.1 < p) scanning.done (v, p) scanning.before there)
      where
        not_before : p < p → ⊥
        not_before less = absurd (omega (arith, less))

    -- Each pair is done.
    scanned : IsNumbered game.rules → (ends' : Bool) → IsPart game s f (scanning.done ++ (v, p) ∷ []) (scanning.done ++ (v, p) ∷ []) [] ends' → IsScanned game s f ends'
    scanned numbered ends' part = record {
      part = whole_part game s f numbered (scanning.done ++ (v, p) ∷ []) [] ends' part;
      quiet = λ w q reached. All-contains (λ x. ¬ IsPatternAt game.rules x.1) (scanning.done ++ (v, p) ∷ []) (w, q) quiet_on (all_met game s f numbered (scanning.done ++ (v, p) ∷ []) [] ends' part w q reached);
    }

    told : IsNumbered game.rules → (ends' : Bool) (all : ℕ) → IsPart game s f (scanning.done ++ (v, p) ∷ []) (scanning.done ++ (v, p) ∷ []) [] ends' → CountsPlain shifts game.rules (scanning.done ++ (v, p) ∷ []) all → all ≤ most_candidates game → IsTold game s f ends' all
    told numbered ends' all part has few = record {
      scanned = scanned numbered ends' part;
      taken = scanned_met game numbered s f (scanning.done ++ (v, p) ∷ []) shifts all (record { sound = part.sound; begun = part.begun }) once (all_met game s f numbered (scanning.done ++ (v, p) ∷ []) [] ends' part) has few;
    }

    -- The last action isn't valid.
    pub told_up_to : IsNumbered game.rules → (all : ℕ) → CountsPlain shifts game.rules (scanning.done ++ (v, p) ∷ []) all → all ≤ most_candidates game → IsTrialAt game s v p Invalid → IsTold game s f ends all
    told_up_to numbered all has few invalid = told numbered ends all (invalid_part game s f (scanning.done ++ (v, p) ∷ []) scanning.done [] ends v p scanning.part invalid) has few

    -- .. or nothing follows it.
    through : (u : ℕ) (ps : List ℕ) (last : Bool) → IsTrialAt game s v p (LeadsTo u) → ps ≡ [] → AreAllThatFollow game.rules (after p) ps → Decides last (Ends game.rules (after p) []) → IsPart game s f (scanning.done ++ (v, p) ∷ []) (scanning.done ++ (v, p) ∷ []) [] (ends || last)
    through u ps last leads none follow decides =
        leads_part game s f (scanning.done ++ (v, p) ∷ []) (scanning.done ++ (v, p) ∷ []) scanning.done [] ends last v p u [] scanning.part (Contains-push scanning.done (v, p)) leads
        (subst (λ (qs : List ℕ). AreAllThatFollow game.rules (after p) qs) none follow) nothing decides
      where
        nothing : MeetsAll (scanning.done ++ (v, p) ∷ []) (scanning.done ++ (v, p) ∷ []) u []
        nothing = record {
          more = [];
          grown = sym (append-nil (scanning.done ++ (v, p) ∷ []));
          only = All-nil (λ (q : ℕ × ℕ). (q.0 ≡ u) × Contains [] q.1);
          all = All-nil (λ (r : ℕ). Contains (scanning.done ++ (v, p) ∷ []) (u, r));
        }

    pub told_through : IsNumbered game.rules → (all : ℕ) → CountsPlain shifts game.rules (scanning.done ++ (v, p) ∷ []) all → all ≤ most_candidates game → (u : ℕ) (ps : List ℕ) (last : Bool) → IsTrialAt game s v p (LeadsTo u) → ps ≡ [] → AreAllThatFollow game.rules (after p) ps → Decides last (Ends game.rules (after p) []) → IsTold game s f (ends || last) all
    told_through numbered all has few u ps last leads none follow decides = told numbered (ends || last) all (through u ps last leads none follow decides) has few

    -- One more action follows.
    pub scanned_on : (all : ℕ) → CountsPlain shifts game.rules (scanning.done ++ (v, p) ∷ []) all → (u q : ℕ) (ps : List ℕ) (last : Bool) → IsTrialAt game s v p (LeadsTo u) → ps ≡ q ∷ [] → AreAllThatFollow game.rules (after p) ps → Decides last (Ends game.rules (after p) []) → p < q → IsScanning game s f u q (ends || last) shifts all
    scanned_on all has u q ps last leads one follow decides later = record {
      done = scanning.done ++ (v, p) ∷ [];
      plain = has;
      different = once;
      before =
          All-push (λ (r : ℕ × ℕ). r.1 < q) scanning.done (v, p)
          (All-weaker (λ (r : ℕ × ℕ). r.1 < p) (λ (r : ℕ × ℕ). r.1 < q) (λ r less. omega (arith, less, later)) scanning.done scanning.before) later;
      part =
          leads_part game s f (scanning.done ++ (v, p) ∷ []) ((scanning.done ++ (v, p) ∷ []) ++ (u, q) ∷ []) scanning.done [] ends last v p u (q ∷ []) scanning.part (Contains-push scanning.done (v, p)) leads
          (subst (λ (qs : List ℕ). AreAllThatFollow game.rules (after p) qs) one follow) (meets_one (scanning.done ++ (v, p) ∷ []) u q) decides;
      quiet = quiet_on;
    }
