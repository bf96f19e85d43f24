-- How a list of pairs is legal by its first pair.
use Rattle.rbg_base.proofs.Common.{◌≡◌, ℕ, ◌<◌, length, List, [], ◌∷◌, ◌++◌, Bool, true, false, refl, sym, ap, ◌∙◌, subst, append_assoc, Option, Some, None, All-head, All-tail, All-cons, All-append}
use Rattle.rbg_rules.specs.Meaning.{switch, IsNumbered, IsModifierAt, IsSwitchAt, HasNoSwitch, is_modifier, Start, after, Follows, AbstractGame, AbstractState, IsStateOf, Applies, Run, RunPairs, stay, modify, pass, AbstractPlace, point_of, Legal, IsPlaceOf, IsGame, try_move}
use Rattle.rbg_rules.proofs.MoveLemmas.{Applies_one}
use Rattle.rbg_rules.proofs.PlaceLemmas.{RunPairs_join}
use Rattle.rbg_rules.proofs.LocalityLemmas.{locality_law}
use Rattle.rbg_search.proofs.Along.{IsNext, IsPositionOf}
use Rattle.rbg_moves.specs.internal.Stepping.{at_vertex, place_beyond, IsStep, IsValidAt, IsTried, IsMadeFrom, made, goes_on}
use Rattle.rbg_search.specs.Passing.{GoesOn, trying}
use Rattle.rbg_search.proofs.Starts.{action_position}
use Rattle.rbg_search.proofs.Closures.{quiet_place}
use Rattle.rbg_search.proofs.Afters.{run_stays}
use Rattle.rbg_search.proofs.Openings.{CutRun, all_right, cut_next, cut_run, next_applies, next_here, quiet_pairs, quiet_switches}

-- A switch is a modifier.
pub switch_modifies : (game : AbstractGame) (p : ℕ) → IsSwitchAt game.rules p → IsModifierAt game.rules p
switch_modifies game p switches = record { action = switch switches.player; stands = switches.stands; modifies = refl }

-- A modifier has a position of the rules.
pub modifier_position : (game : AbstractGame) → IsNumbered game.rules → (p : ℕ) → IsModifierAt game.rules p → IsPositionOf game.rules p
modifier_position game numbered p modifier = action_position game.rules numbered p modifier.action modifier.stands

true_not_false : true ≡ false → ⊥
true_not_false e = cc

-- Whether a switch stands there, as it was told of the same game.
pub plain_by : (game game' : AbstractGame) (p : ℕ) (r : Bool) → game' ≡ game → (IsSwitchAt game'.rules p → r ≡ true) → r ≡ false → ¬ IsSwitchAt game.rules p
plain_by game game' p r same told other switches =
    true_not_false (sym (told (subst (λ (h : AbstractGame). IsSwitchAt h.rules p) (sym same) switches)) ∙ other)

pub switch_by : (game game' : AbstractGame) (p : ℕ) → game' ≡ game → IsSwitchAt game'.rules p → IsSwitchAt game.rules p
switch_by game game' p same = subst (λ (h : AbstractGame). IsSwitchAt h.rules p) same

-- A modifier leaves its pair.
one_pair : (game : AbstractGame) → IsNumbered game.rules → (p : ℕ) (s t : AbstractState) → IsModifierAt game.rules p → Applies game p s t → RunPairs game (p ∷ []) s t ((s.vertex, p) ∷ [])
one_pair game numbered p s t modifier applied = by_kind (is_modifier applied.action) refl
  where
    by_kind : (b : Bool) → is_modifier applied.action ≡ b → RunPairs game (p ∷ []) s t ((s.vertex, p) ∷ [])
    by_kind true modifies = modify applied modifies stay
    by_kind false quiet = absurd (quiet_place game numbered p applied quiet modifier)

-- A modifier that comes next makes a run with its pair.
next_runs : (game : AbstractGame) → IsNumbered game.rules → (s : AbstractState) (f : Start) (v p : ℕ) (next : IsNext game s f v p) (later : AbstractState) → Applies game p (at_vertex s v) later → RunPairs game (next.before ++ p ∷ []) s later ((v, p) ∷ [])
next_runs game numbered s f v p next later applied =
    let here : Run game next.before s (at_vertex s v) = subst (λ (u : AbstractState). Run game next.before s u) (next_here game numbered s f v p next) next.runs in
    RunPairs_join (quiet_pairs game next.before s (at_vertex s v) next.no_modifier here) (one_pair game numbered p (at_vertex s v) later next.modifies applied)

-- A switch that comes next is a legal move.
pub legal_end : (game : AbstractGame) → IsNumbered game.rules → (place : AbstractPlace) (v p : ℕ) (later : AbstractState) → IsNext game place.state (point_of place.last) v p → IsSwitchAt game.rules p → Applies game p (at_vertex place.state v) later → Legal game place ((v, p) ∷ []) (place_beyond later p)
legal_end game numbered place v p later next switches applied = record {
  before = next.before;
  last = p;
  follows = next.follows;
  runs = next_runs game numbered place.state (point_of place.last) v p next later applied;
  switches = switches;
  none_before = quiet_switches game.rules next.before next.no_modifier;
  stands = refl;
}

-- What is legal after another modifier that comes next, is legal with its pair in front.
pub legal_on : (game : AbstractGame) → IsNumbered game.rules → (place : AbstractPlace) (v p : ℕ) (later : AbstractState) (qs : List (ℕ × ℕ)) (to : AbstractPlace) → IsNext game place.state (point_of place.last) v p → ¬ IsSwitchAt game.rules p → Applies game p (at_vertex place.state v) later → Legal game (place_beyond later p) qs to → Legal game place ((v, p) ∷ qs) to
legal_on game numbered place v p later qs to next plain applied legal =
    let joined : (next.before ++ p ∷ legal.before) ++ legal.last ∷ [] ≡ next.before ++ (p ∷ (legal.before ++ legal.last ∷ [])) = append_assoc next.before (p ∷ legal.before) (legal.last ∷ []) in
    let joined' : (next.before ++ p ∷ []) ++ (legal.before ++ legal.last ∷ []) ≡ next.before ++ (p ∷ (legal.before ++ legal.last ∷ [])) = append_assoc next.before (p ∷ []) (legal.before ++ legal.last ∷ []) in
    let runs : RunPairs game ((next.before ++ p ∷ []) ++ (legal.before ++ legal.last ∷ [])) place.state to.state ((v, p) ∷ qs) = RunPairs_join (next_runs game numbered place.state (point_of place.last) v p next later applied) legal.runs in
    record {
      before = next.before ++ p ∷ legal.before;
      last = legal.last;
      follows = subst (λ (m : List ℕ). Follows game.rules (point_of place.last) m) (sym joined) ((locality_law game.rules numbered (point_of place.last) next.before p (legal.before ++ legal.last ∷ [])).0.1 (next.follows, legal.follows));
      runs = subst (λ (m : List ℕ). RunPairs game m place.state to.state ((v, p) ∷ qs)) (joined' ∙ sym joined) runs;
      switches = legal.switches;
      none_before = All-append (λ (q : ℕ). ¬ IsSwitchAt game.rules q) next.before (p ∷ legal.before) (quiet_switches game.rules next.before next.no_modifier) (All-cons (λ (q : ℕ). ¬ IsSwitchAt game.rules q) p legal.before plain legal.none_before);
      stands = legal.stands;
    }

-- Where a list ends: with the element that stands in it, or after that.
data EndOf (u : List ℕ) (p : ℕ) (w before : List ℕ) (last : ℕ) : Type 0 where
  here : w ≡ [] → before ≡ u → last ≡ p → EndOf u p w before last
  beyond : (m : List ℕ) → w ≡ m ++ last ∷ [] → before ≡ u ++ p ∷ m → EndOf u p w before last

not_empty : (u : List ℕ) (p : ℕ) (w : List ℕ) → [] ≡ u ++ p ∷ w → ⊥
not_empty [] p w e = cc
not_empty (a ∷ u) p w e = cc

end_of : (u : List ℕ) (p : ℕ) (w before : List ℕ) (last : ℕ) → before ++ last ∷ [] ≡ u ++ p ∷ w → EndOf u p w before last
end_of [] p w [] last e = here (cc) refl (cc)
end_of [] p w (b ∷ before) last e = beyond before (cc) (cc)
end_of (a ∷ u) p w [] last e = let tails : [] ≡ u ++ p ∷ w = cc in absurd (not_empty u p w tails)
end_of (a ∷ u) p w (b ∷ before) last e =
    let tails : before ++ last ∷ [] ≡ u ++ p ∷ w = cc in
    let heads : b ≡ a = cc in
    further heads (end_of u p w before last tails)
  where
    further : b ≡ a → EndOf u p w before last → EndOf (a ∷ u) p w (b ∷ before) last
    further heads (here empty same end) = here empty (cc) end
    further heads (beyond m end same) = beyond m end (cc)

-- What stands after the first pair of a legal list: nothing, where the pair is of the switch; else what is legal there.
pub data Onward (game : AbstractGame) (later : AbstractState) (p : ℕ) (qs : List (ℕ × ℕ)) (to : AbstractPlace) : Type 0 where
  ended : IsSwitchAt game.rules p → qs ≡ [] → to ≡ place_beyond later p → Onward game later p qs to
  going : ¬ IsSwitchAt game.rules p → Legal game (place_beyond later p) qs to → Onward game later p qs to

-- The first pair of a legal list comes next.
pub record CutLegal (game : AbstractGame) (place : AbstractPlace) (v p : ℕ) (qs : List (ℕ × ℕ)) (to : AbstractPlace) : Type 0 where
  pub next : IsNext game place.state (point_of place.last) v p
  pub later : AbstractState
  pub applies : Applies game p (at_vertex place.state v) later
  pub onward : Onward game later p qs to

no_pairs : {game : AbstractGame} {s t : AbstractState} {qs : List (ℕ × ℕ)} → RunPairs game [] s t qs → (qs ≡ []) × (t ≡ s)
no_pairs stay = (refl, refl)

same_place : {to to' : AbstractPlace} → to.state ≡ to'.state → to.last ≡ to'.last → to ≡ to'
same_place state last = λ i. record { state = state i; last = last i }

pub legal_cut : (game : AbstractGame) → IsNumbered game.rules → (place : AbstractPlace) (v p : ℕ) (qs : List (ℕ × ℕ)) (to : AbstractPlace) → Legal game place ((v, p) ∷ qs) to → CutLegal game place v p qs to
legal_cut game numbered place v p qs to legal =
    let cut = cut_run game numbered legal.runs in
    let follows : Follows game.rules f (cut.before ++ p ∷ cut.rest_of) = subst (λ (m : List ℕ). Follows game.rules f m) cut.joined legal.follows in
    let parts = (locality_law game.rules numbered f cut.before p cut.rest_of).0.0 follows in
    record { next = cut_next game numbered cut parts.0; later = cut.later; applies = cut.applied; onward = by_end cut parts.1 (end_of cut.before p cut.rest_of legal.before legal.last cut.joined) }
  where
    f : Start
    f = point_of place.last

    by_end : (cut : CutRun game (legal.before ++ legal.last ∷ []) place.state to.state v p qs) → Follows game.rules (after p) cut.rest_of → EndOf cut.before p cut.rest_of legal.before legal.last → Onward game cut.later p qs to
    by_end cut follows (here empty same end) =
        let run = no_pairs (subst (λ (m : List ℕ). RunPairs game m cut.later to.state qs) empty cut.onward) in
        ended (subst (λ (q : ℕ). IsSwitchAt game.rules q) end legal.switches) run.0 (same_place run.1 (legal.stands ∙ ap Some end))
    by_end cut follows (beyond m end same) =
        let none : HasNoSwitch game.rules (cut.before ++ p ∷ m) = subst (λ (w : List ℕ). HasNoSwitch game.rules w) same legal.none_before in
        let none_beyond : HasNoSwitch game.rules (p ∷ m) = all_right (λ (q : ℕ). ¬ IsSwitchAt game.rules q) cut.before (p ∷ m) none in
        going (All-head (λ (q : ℕ). ¬ IsSwitchAt game.rules q) p m none_beyond) (record {
          before = m;
          last = legal.last;
          follows = subst (λ (w : List ℕ). Follows game.rules (after p) w) end follows;
          runs = subst (λ (w : List ℕ). RunPairs game w cut.later to.state qs) end cut.onward;
          switches = legal.switches;
          none_before = All-tail (λ (q : ℕ). ¬ IsSwitchAt game.rules q) p m none_beyond;
          stands = legal.stands;
        })

-- No pairs are never legal.
switch_pairs : (game : AbstractGame) → IsNumbered game.rules → (w : List ℕ) (p : ℕ) (s t : AbstractState) → IsSwitchAt game.rules p → RunPairs game (w ++ p ∷ []) s t [] → ⊥
switch_pairs game numbered [] p s t switches (pass applied quiet run) = quiet_place game numbered p applied quiet (switch_modifies game p switches)
switch_pairs game numbered (q ∷ w) p s t switches (pass applied quiet run) = switch_pairs game numbered w p _ t switches run

pub legal_some : (game : AbstractGame) → IsNumbered game.rules → (place to : AbstractPlace) → ¬ Legal game place [] to
legal_some game numbered place to legal = switch_pairs game numbered legal.before legal.last place.state to.state legal.switches legal.runs

-- What comes next is valid at its vertex.
pub valid_next : (game : AbstractGame) → IsNumbered game.rules → (s : AbstractState) (f : Start) (v p : ℕ) → v < length game.board.first → IsNext game s f v p → IsValidAt game s v p
valid_next game numbered s f v p there next = record { there = there; modifies = next.modifies; later = next.later; applies = next_applies game numbered s f v p next }

-- The place after a modifier is one of the game.
pub place_after : (game : AbstractGame) → IsNumbered game.rules → (later : AbstractState) (p : ℕ) → IsModifierAt game.rules p → IsStateOf game later → IsPlaceOf game (place_beyond later p)
place_after game numbered later p modifier fits =
    let position = modifier_position game numbered p modifier in
    record { state = fits; last = (position.from_one, position.there) }

-- What comes next in a semi-state of the game stands at a vertex of the board.
pub next_there : (game : AbstractGame) → IsGame game → (s : AbstractState) (f : Start) (v p : ℕ) → IsStateOf game s → IsNext game s f v p → v < length game.board.first
next_there game lawful s f v p fits next =
    let here = run_stays game lawful next.runs fits in
    subst (λ (n : ℕ). v < n) here.vertices (subst (λ (n : ℕ). n < length next.here.pieces) next.vertex here.vertex)

-- Only what the step leads to is after it.
step_one : (game : AbstractGame) → IsNumbered game.rules → (place : AbstractPlace) (v p : ℕ) (qs : List (ℕ × ℕ)) (to : AbstractPlace) (later : AbstractState) → Applies game p (at_vertex place.state v) later → CutLegal game place v p qs to → Onward game later p qs to
step_one game numbered place v p qs to later applied cut =
    subst (λ (u : AbstractState). Onward game u p qs to) (Applies_one game numbered p cut.applies applied) cut.onward

-- Pairs of which the first doesn't come next are not legal.
pub none_at : (game : AbstractGame) → IsNumbered game.rules → (place : AbstractPlace) (v p : ℕ) (qs : List (ℕ × ℕ)) → ¬ IsNext game place.state (point_of place.last) v p → (to : AbstractPlace) → ¬ Legal game place ((v, p) ∷ qs) to
none_at game numbered place v p qs other to legal = other (legal_cut game numbered place v p qs to legal).next

-- After a modifier that is no switch the rest decides.
pub step_legal : (game : AbstractGame) → IsNumbered game.rules → (place : AbstractPlace) (v p : ℕ) (qs : List (ℕ × ℕ)) (to : AbstractPlace) (later : AbstractState) → IsStep game place.state (point_of place.last) v p later → ¬ IsSwitchAt game.rules p → Legal game (place_beyond later p) qs to → Legal game place ((v, p) ∷ qs) to
step_legal game numbered place v p qs to later taken plain legal = legal_on game numbered place v p later qs to taken.next plain taken.applies legal

pub step_none : (game : AbstractGame) → IsNumbered game.rules → (place : AbstractPlace) (v p : ℕ) (qs : List (ℕ × ℕ)) (later : AbstractState) → IsStep game place.state (point_of place.last) v p later → ¬ IsSwitchAt game.rules p → ((to : AbstractPlace) → ¬ Legal game (place_beyond later p) qs to) → (to : AbstractPlace) → ¬ Legal game place ((v, p) ∷ qs) to
step_none game numbered place v p qs later taken plain none to legal =
    by_onward (step_one game numbered place v p qs to later taken.applies (legal_cut game numbered place v p qs to legal))
  where
    by_onward : Onward game later p qs to → ⊥
    by_onward (ended switches _ _) = plain switches
    by_onward (going _ legal) = none to legal

-- A switch ends the list.
pub step_ends : (game : AbstractGame) → IsNumbered game.rules → (place : AbstractPlace) (v p : ℕ) (later : AbstractState) → IsStep game place.state (point_of place.last) v p later → IsSwitchAt game.rules p → Legal game place ((v, p) ∷ []) (place_beyond later p)
step_ends game numbered place v p later taken switches = legal_end game numbered place v p later taken.next switches taken.applies

pub none_after : (game : AbstractGame) → IsNumbered game.rules → (place : AbstractPlace) (v p : ℕ) (qs : List (ℕ × ℕ)) → IsSwitchAt game.rules p → ¬ (qs ≡ []) → (to : AbstractPlace) → ¬ Legal game place ((v, p) ∷ qs) to
none_after game numbered place v p qs switches more to legal = by_onward (legal_cut game numbered place v p qs to legal).onward
  where
    by_onward : {later : AbstractState} → Onward game later p qs to → ⊥
    by_onward (ended _ empty _) = more empty
    by_onward (going plain _) = plain switches

-- The question goes on from the pair to the rest.
pub step_goes_on : (game : AbstractGame) (s : AbstractState) (f : Start) (v p : ℕ) (qs : List (ℕ × ℕ)) (later : AbstractState) → IsStep game s f v p later → ¬ IsSwitchAt game.rules p → GoesOn game (try_move ((v, p) ∷ qs)) s f v p (try_move qs) later
step_goes_on game s f v p qs later taken plain = record { next = taken.next; applies = taken.applies; plain = plain; passes = trying }

-- A move that goes on takes its pairs one after another.
pub made_next : (game : AbstractGame) → IsNumbered game.rules → (place : AbstractPlace) (v p : ℕ) (qs : List (ℕ × ℕ)) (to : AbstractPlace) → IsMadeFrom game place ((v, p) ∷ qs) to → IsNext game place.state (point_of place.last) v p
made_next game numbered place v p qs to (goes_on legal) = (legal_cut game numbered place v p qs to legal).next

pub made_on : (game : AbstractGame) → IsNumbered game.rules → (place : AbstractPlace) (v p : ℕ) (qs : List (ℕ × ℕ)) (to : AbstractPlace) (later : AbstractState) → Applies game p (at_vertex place.state v) later → IsMadeFrom game place ((v, p) ∷ qs) to → IsMadeFrom game (place_beyond later p) qs to
made_on game numbered place v p qs to later applied (goes_on legal) =
    by_onward (step_one game numbered place v p qs to later applied (legal_cut game numbered place v p qs to legal))
  where
    by_onward : Onward game later p qs to → IsMadeFrom game (place_beyond later p) qs to
    by_onward (ended _ empty same) = subst (λ (rs : List (ℕ × ℕ)). IsMadeFrom game (place_beyond later p) rs to) (sym empty) (subst (λ (u : AbstractPlace). IsMadeFrom game (place_beyond later p) [] u) (sym same) made)
    by_onward (going _ legal) = goes_on legal

pub made_end : (game : AbstractGame) → IsNumbered game.rules → (place to : AbstractPlace) → IsMadeFrom game place [] to → to ≡ place
made_end game numbered place to made = refl
made_end game numbered place to (goes_on legal) = absurd (legal_some game numbered place to legal)

-- What becomes of the pairs after the first one becomes of all.
pub tried_on : (game : AbstractGame) → IsNumbered game.rules → (place : AbstractPlace) (v p : ℕ) (qs : List (ℕ × ℕ)) (later new : AbstractState) → IsStep game place.state (point_of place.last) v p later → ¬ IsSwitchAt game.rules p → (end : Option ℕ) → IsTried game (place_beyond later p) qs new end → IsTried game place ((v, p) ∷ qs) new end
tried_on game numbered place v p qs later new taken plain (Some last) legal = step_legal game numbered place v p qs (place_beyond new last) later taken plain legal
tried_on game numbered place v p qs later new taken plain None none = step_none game numbered place v p qs later taken plain none
