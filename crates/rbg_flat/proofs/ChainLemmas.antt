-- What is met by leaps are the candidates, and what is met step by step is what may come next.
use Rattle.rbg_base.proofs.Common.{◌≡◌, ℕ, List, [], ◌∷◌, ◌++◌, Bool, true, false, refl, sym, ap, ◌∙◌, subst, inl, inr, append_assoc, All-nil, All-cons, All-head, All-tail, All-append, Some}
use Rattle.rbg_board.specs.Graph.{next}
use Rattle.rbg_rules.specs.Meaning.{AbstractAction, shift, on, off, assignment, comparison, switch, positive, negative, IsNumbered, IsModifierAt, HasNoModifier, HasAction, is_modifier, Start, after, Follows, Ends, AbstractGame, AbstractState, rest, step, Acts, Applies, Run}
use Rattle.rbg_rules.proofs.RunLemmas.{Runs_join}
use Rattle.rbg_rules.proofs.PositionLemmas.{one_action_at}
use Rattle.rbg_rules.proofs.LocalityLemmas.{locality_law}
use Rattle.rbg_shifts.specs.Leaps.{IsShiftAt, Leads, stay, go, IsLeap, EndsAcross}
use Rattle.rbg_flat.proofs.Common.{Way, leaping, stepping, Moves, stays, goes, IsOfPart, IsCandidate, MayEnd, at_vertex, Holds, IsMet, first, then, EndsMet, ChainLaw}

-- An action that is applied and is no modifier is a shift, or it is none and leaves all as it is.
pub data QuietStep (game : AbstractGame) (q : ℕ) (s t : AbstractState) : Type 0 where
  shifts : (d u : ℕ) → HasAction game.rules q (shift d) → next game.board s.vertex d ≡ Some u → t ≡ at_vertex s u → QuietStep game q s t
  holds : ¬ IsShiftAt game.rules q → t ≡ s → QuietStep game q s t

is_shift : AbstractAction → Bool
is_shift (shift d) = true
is_shift _ = false

module _ (game : AbstractGame) (numbered : IsNumbered game.rules) where
  no_shift : (q : ℕ) (a : AbstractAction) → HasAction game.rules q a → is_shift a ≡ false → ¬ IsShiftAt game.rules q
  unfolding is_shift
  no_shift q a stands plain other = true_not_false (ap is_shift (one_action_at game.rules numbered q (shift other.direction) a other.stands stands) ∙ plain)
    where
      true_not_false : true ≡ false → ⊥
      true_not_false e = cc

  quiet_by : (q : ℕ) (s t : AbstractState) (a : AbstractAction) → HasAction game.rules q a → ¬ IsModifierAt game.rules q → Acts game a s t → QuietStep game q s t
  unfolding is_shift
  quiet_by q s t (shift d) stands quiet (u, leads, is) = shifts d u stands leads is
  quiet_by q s t (on xs) stands quiet (_, is) = holds (no_shift q (on xs) stands refl) is
  quiet_by q s t (off x) stands quiet acts = absurd (quiet (record { action = off x; stands = stands; modifies = refl }))
  quiet_by q s t (assignment v e) stands quiet acts = absurd (quiet (record { action = assignment v e; stands = stands; modifies = refl }))
  quiet_by q s t (comparison e r f) stands quiet (_, _, _, _, _, is) = holds (no_shift q (comparison e r f) stands refl) is
  quiet_by q s t (switch n) stands quiet acts = absurd (quiet (record { action = switch n; stands = stands; modifies = refl }))
  quiet_by q s t (positive x) stands quiet (_, is) = holds (no_shift q (positive x) stands refl) is
  quiet_by q s t (negative x) stands quiet (_, is) = holds (no_shift q (negative x) stands refl) is

  pub quiet_step : (q : ℕ) (s t : AbstractState) → ¬ IsModifierAt game.rules q → Applies game q s t → QuietStep game q s t
  quiet_step q s t quiet applied = quiet_by q s t applied.action applied.stands quiet applied.acts

  -- A leap after a shift is one before it.
  leap_before : (f : Start) (v d u q p w : ℕ) → HasAction game.rules q (shift d) → next game.board v d ≡ Some u → Follows game.rules f (q ∷ []) → IsLeap game (after q) u p w → IsLeap game f v p w
  leap_before f v d u q p w stands edge follows leap = record {
    shifts = q ∷ leap.shifts;
    leads = go d stands edge leap.leads;
    follows = (locality_law game.rules numbered f [] q (leap.shifts ++ p ∷ [])).0.1 (follows, leap.follows);
    plain = leap.plain;
  }

  -- What is met from after a shift is met from before it.
  before_shift : (s : AbstractState) (f : Start) (d u q w p : ℕ) → HasAction game.rules q (shift d) → next game.board s.vertex d ≡ Some u → Follows game.rules f (q ∷ []) → IsMet leaping game (at_vertex s u) (after q) w p → IsMet leaping game s f w p
  before_shift s f d u q w p stands leads follows (first leap) = first (leap_before f s.vertex d u q p w stands leads follows leap)
  before_shift s f d u q w p stands leads follows (then {v = x} {q = r} so_far here leap) = then (before_shift s f d u q x r stands leads follows so_far) (record { to = here.to; quiet = here.quiet; applies = here.applies }) leap

  -- What is met from after an action that holds is met from before it.
  before_hold : (s : AbstractState) (f : Start) (q w p : ℕ) → IsMet leaping game s f s.vertex q → Holds game s s.vertex q → IsMet leaping game s (after q) w p → IsMet leaping game s f w p
  before_hold s f q w p here is (first leap) = then here is leap
  before_hold s f q w p here is (then {v = x} {q = r} so_far there leap) = then (before_hold s f q x r here is so_far) there leap

  -- An action that holds where one stands is met there.
  met_here : (s : AbstractState) (f : Start) (q : ℕ) → Follows game.rules f (q ∷ []) → ¬ IsShiftAt game.rules q → IsMet leaping game s f s.vertex q
  met_here s f q follows plain = first (record { shifts = []; leads = stay; follows = follows; plain = plain })

  holds_here : (s : AbstractState) (q : ℕ) → ¬ IsModifierAt game.rules q → Applies game q s s → Holds game s s.vertex q
  holds_here s q quiet applies = record { to = s.vertex; quiet = quiet; applies = applies }

  -- An action that holds and is no shift leaves the vertex as it is.
  pub stays_there : (s : AbstractState) (v q : ℕ) → ¬ IsShiftAt game.rules q → Holds game s v q → Applies game q (at_vertex s v) (at_vertex s v)
  stays_there s v q plain is = by_step (quiet_step q (at_vertex s v) (at_vertex s is.to) is.quiet is.applies)
    where
      by_step : QuietStep game q (at_vertex s v) (at_vertex s is.to) → Applies game q (at_vertex s v) (at_vertex s v)
      by_step (shifts d w stands leads same) = absurd (plain (record { direction = d; stands = stands }))
      by_step (holds other same) = subst (λ (t : AbstractState). Applies game q (at_vertex s v) t) same is.applies

  -- What is met by leaps is no shift.
  pub met_plain : (s : AbstractState) (f : Start) (v p : ℕ) → IsMet leaping game s f v p → ¬ IsShiftAt game.rules p
  met_plain s f v p (first leap) = leap.plain
  met_plain s f v p (then here is leap) = leap.plain

  -- What is reached by words is met.
  met : (s here : AbstractState) (f : Start) (w : List ℕ) (p : ℕ) → HasNoModifier game.rules w → Run game w s here → Follows game.rules f (w ++ p ∷ []) → ¬ IsShiftAt game.rules p → IsMet leaping game s f here.vertex p
  met s here f w p none rest follows plain = met_here s f p follows plain
  met s here f w p none (step {p = q} {w = m} {middle = middle} applied run) follows plain =
      let cut = (locality_law game.rules numbered f [] q (m ++ p ∷ [])).0.0 follows in
      let quiet = All-head (λ (k : ℕ). ¬ IsModifierAt game.rules k) q m none in
      let more : IsMet leaping game middle (after q) here.vertex p = met middle here (after q) m p (All-tail (λ (k : ℕ). ¬ IsModifierAt game.rules k) q m none) run cut.1 plain in
      by_step q s middle f here.vertex p quiet cut.0 applied more (quiet_step q s middle quiet applied)
    where
      by_step : (q : ℕ) (s middle : AbstractState) (f : Start) (w p : ℕ) → ¬ IsModifierAt game.rules q → Follows game.rules f (q ∷ []) → Applies game q s middle → IsMet leaping game middle (after q) w p → QuietStep game q s middle → IsMet leaping game s f w p
      by_step q s middle f w p quiet follows applied more (shifts d u stands leads is) = before_shift s f d u q w p stands leads follows (subst (λ (t : AbstractState). IsMet leaping game t (after q) w p) is more)
      by_step q s middle f w p quiet follows applied more (holds plain is) = before_hold s f q w p (met_here s f q follows plain) (holds_here s q quiet (subst (λ (t : AbstractState). Applies game q s t) is applied)) (subst (λ (t : AbstractState). IsMet leaping game t (after q) w p) is more)

  -- Shifts run along.
  pub shift_quiet : (q d : ℕ) → HasAction game.rules q (shift d) → ¬ IsModifierAt game.rules q
  shift_quiet q d stands other = not_so (ap is_modifier (one_action_at game.rules numbered q (shift d) other.action stands other.stands) ∙ other.modifies)
    where
      not_so : false ≡ true → ⊥
      not_so e = cc

  -- Shifts that lead on are a run.
  pub record AlongShifts (s : AbstractState) (w : List ℕ) (u : ℕ) : Type 0 where
    pub no_modifier : HasNoModifier game.rules w
    pub runs : Run game w s (at_vertex s u)

  along : (s : AbstractState) (v : ℕ) (w : List ℕ) (u : ℕ) → Leads game v w u → AlongShifts (at_vertex s v) w u
  along s v w u stay = record { no_modifier = All-nil (λ (k : ℕ). ¬ IsModifierAt game.rules k); runs = rest }
  along s v w u (go {w = x} {p = q} {m = m} d stands leads more) =
      let beyond = along s x m u more in
      record {
        no_modifier = All-cons (λ (k : ℕ). ¬ IsModifierAt game.rules k) q m (shift_quiet q d stands) beyond.no_modifier;
        runs = step (record { action = shift d; stands = stands; acts = (x, leads, refl) }) beyond.runs;
      }

  -- What is met is reached by words.
  pub record ByWords (s : AbstractState) (f : Start) (v p : ℕ) : Type 0 where
    pub before : List ℕ
    pub no_modifier : HasNoModifier game.rules before
    pub runs : Run game before s (at_vertex s v)
    pub follows : Follows game.rules f (before ++ p ∷ [])
    pub plain : ¬ IsShiftAt game.rules p

  all_joined : (a b : List ℕ) → HasNoModifier game.rules a → HasNoModifier game.rules b → HasNoModifier game.rules (a ++ b)
  all_joined a b one other = All-append (λ (k : ℕ). ¬ IsModifierAt game.rules k) a b one other

  by_words : (s : AbstractState) (f : Start) (v p : ℕ) → IsMet leaping game s f v p → ByWords s f v p
  by_words s f v p (first leap) =
      let shifts = along s s.vertex leap.shifts v leap.leads in
      record { before = leap.shifts; no_modifier = shifts.no_modifier; runs = shifts.runs; follows = leap.follows; plain = leap.plain }
  by_words s f v p (then {v = w} {q = q} here is leap) =
      let so_far = by_words s f w q here in
      let shifts = along s w leap.shifts v leap.leads in
      record {
        before = so_far.before ++ q ∷ leap.shifts;
        no_modifier = all_joined so_far.before (q ∷ leap.shifts) so_far.no_modifier (All-cons (λ (k : ℕ). ¬ IsModifierAt game.rules k) q leap.shifts is.quiet shifts.no_modifier);
        runs = Runs_join so_far.runs (step (stays_there s w q (met_plain s f w q here) is) shifts.runs);
        follows = beyond so_far.before q leap.shifts p so_far.follows leap.follows;
        plain = leap.plain;
      }
    where
      beyond : (a : List ℕ) (q : ℕ) (m : List ℕ) (p : ℕ) → Follows game.rules f (a ++ q ∷ []) → Follows game.rules (after q) (m ++ p ∷ []) → Follows game.rules f ((a ++ q ∷ m) ++ p ∷ [])
      beyond a q m p follows more = subst (λ (w : List ℕ). Follows game.rules f w) (sym (append_assoc a (q ∷ m) (p ∷ []))) ((locality_law game.rules numbered f a q (m ++ p ∷ [])).0.1 (follows, more))

  candidate_of : (s : AbstractState) (f : Start) (v p : ℕ) → IsMet leaping game s f v p → IsCandidate game s f v p
  candidate_of s f v p here =
      let words = by_words s f v p here in
      record { before = words.before; here = at_vertex s v; no_modifier = words.no_modifier; runs = words.runs; vertex = refl; follows = words.follows; plain = words.plain }

  met_candidate : (s : AbstractState) (f : Start) (v p : ℕ) → IsCandidate game s f v p → IsMet leaping game s f v p
  met_candidate s f v p is = subst (λ (x : ℕ). IsMet leaping game s f x p) is.vertex (met s is.here f is.before p is.no_modifier is.runs is.follows is.plain)

  -- A word that ends after a shift ends before it, and so after what holds.
  end_before : (f : Start) (v d u q : ℕ) → HasAction game.rules q (shift d) → next game.board v d ≡ Some u → Follows game.rules f (q ∷ []) → EndsAcross game (after q) u → EndsAcross game f v
  end_before f v d u q stands edge follows end = record {
    shifts = q ∷ end.shifts;
    to = end.to;
    leads = go d stands edge end.leads;
    ends = (locality_law game.rules numbered f [] q end.shifts).1.1 (follows, end.ends);
  }

  end_shift : (s : AbstractState) (f : Start) (d u q : ℕ) → HasAction game.rules q (shift d) → next game.board s.vertex d ≡ Some u → Follows game.rules f (q ∷ []) → EndsMet leaping game (at_vertex s u) (after q) → EndsMet leaping game s f
  end_shift s f d u q stands leads follows (inl end) = inl (end_before f s.vertex d u q stands leads follows end)
  end_shift s f d u q stands leads follows (inr end) = inr (record {
    vertex = end.vertex;
    position = end.position;
    met = before_shift s f d u q end.vertex end.position stands leads follows end.met;
    holds = record { to = end.holds.to; quiet = end.holds.quiet; applies = end.holds.applies };
    ends = end.ends;
  })

  end_hold : (s : AbstractState) (f : Start) (q : ℕ) → IsMet leaping game s f s.vertex q → Holds game s s.vertex q → EndsMet leaping game s (after q) → EndsMet leaping game s f
  end_hold s f q here is (inl end) = inr (record { vertex = s.vertex; position = q; met = here; holds = is; ends = end })
  end_hold s f q here is (inr end) = inr (record { vertex = end.vertex; position = end.position; met = before_hold s f q end.vertex end.position here is end.met; holds = end.holds; ends = end.ends })

  ends_met : (s here : AbstractState) (f : Start) (w : List ℕ) → HasNoModifier game.rules w → Run game w s here → Ends game.rules f w → EndsMet leaping game s f
  ends_met s here f w none rest ends = inl (record { shifts = []; to = s.vertex; leads = stay; ends = ends })
  ends_met s here f w none (step {p = q} {w = m} {middle = middle} applied run) ends =
      let cut = (locality_law game.rules numbered f [] q m).1.0 ends in
      let quiet = All-head (λ (k : ℕ). ¬ IsModifierAt game.rules k) q m none in
      let more : EndsMet leaping game middle (after q) = ends_met middle here (after q) m (All-tail (λ (k : ℕ). ¬ IsModifierAt game.rules k) q m none) run cut.1 in
      by_step q s middle f quiet cut.0 applied more (quiet_step q s middle quiet applied)
    where
      by_step : (q : ℕ) (s middle : AbstractState) (f : Start) → ¬ IsModifierAt game.rules q → Follows game.rules f (q ∷ []) → Applies game q s middle → EndsMet leaping game middle (after q) → QuietStep game q s middle → EndsMet leaping game s f
      by_step q s middle f quiet follows applied more (shifts d u stands leads is) = end_shift s f d u q stands leads follows (subst (λ (t : AbstractState). EndsMet leaping game t (after q)) is more)
      by_step q s middle f quiet follows applied more (holds plain is) = end_hold s f q (met_here s f q follows plain) (holds_here s q quiet (subst (λ (t : AbstractState). Applies game q s t) is applied)) (subst (λ (t : AbstractState). EndsMet leaping game t (after q)) is more)

  met_end : (s : AbstractState) (f : Start) → MayEnd game s f → EndsMet leaping game s f
  met_end s f end = ends_met s end.here f end.before end.no_modifier end.runs end.ends

  end_met : (s : AbstractState) (f : Start) → EndsMet leaping game s f → MayEnd game s f
  end_met s f (inl end) =
      let shifts = along s s.vertex end.shifts end.to end.leads in
      record { before = end.shifts; here = at_vertex s end.to; no_modifier = shifts.no_modifier; runs = shifts.runs; ends = end.ends }
  end_met s f (inr end) =
      let words = by_words s f end.vertex end.position end.met in
      let shifts = along s end.vertex end.ends.shifts end.ends.to end.ends.leads in
      record {
        before = words.before ++ end.position ∷ end.ends.shifts;
        here = at_vertex s end.ends.to;
        no_modifier = all_joined words.before (end.position ∷ end.ends.shifts) words.no_modifier (All-cons (λ (k : ℕ). ¬ IsModifierAt game.rules k) end.position end.ends.shifts end.holds.quiet shifts.no_modifier);
        runs = Runs_join words.runs (step (stays_there s end.vertex end.position (met_plain s f end.vertex end.position end.met) end.holds) shifts.runs);
        ends = (locality_law game.rules numbered f words.before end.position end.ends.shifts).1.1 (words.follows, end.ends.ends);
      }

  -- ---- step by step

  -- What holds is a run along the move.
  moved : (s : AbstractState) (v q u : ℕ) → Moves game q v u → Holds game s v q → Applies game q (at_vertex s v) (at_vertex s u)
  moved s v q u (stays plain) is = stays_there s v q plain is
  moved s v q u (goes d stands edge) is = record { action = shift d; stands = stands; acts = (u, edge, refl) }

  -- Where an action that is no modifier leads.
  record Going (s : AbstractState) (q u : ℕ) : Type 0 where
    pub holds : Holds game s s.vertex q
    pub moves : Moves game q s.vertex u

  going : (s middle : AbstractState) (q : ℕ) → ¬ IsModifierAt game.rules q → Applies game q s middle → (u : ℕ) × (middle ≡ at_vertex s u) × Going s q u
  going s middle q quiet applied = by_step (quiet_step q s middle quiet applied)
    where
      by_step : QuietStep game q s middle → (u : ℕ) × (middle ≡ at_vertex s u) × Going s q u
      by_step (shifts d u stands leads same) = (
        u,
        same,
        record {
          holds = record { to = u; quiet = quiet; applies = subst (λ (t : AbstractState). Applies game q s t) same applied };
          moves = goes d stands leads;
        },
      )
      by_step (holds plain same) = (
        s.vertex,
        same,
        record {
          holds = record { to = s.vertex; quiet = quiet; applies = subst (λ (t : AbstractState). Applies game q s t) same applied };
          moves = stays plain;
        },
      )

  -- What is met from after an action that leads on is met from before it.
  before_going : (s : AbstractState) (f : Start) (q u w p : ℕ) → Follows game.rules f (q ∷ []) → Going s q u → IsMet stepping game (at_vertex s u) (after q) w p → IsMet stepping game s f w p
  before_going s f q u w p follows going (first lead) = then (first (refl, follows)) going.holds (record { moves = subst (λ (x : ℕ). Moves game q s.vertex x) (sym lead.0) going.moves; follows = lead.1 })
  before_going s f q u w p follows going (then {v = x} {q = r} so_far here lead) =
      then (before_going s f q u x r follows going so_far) (record { to = here.to; quiet = here.quiet; applies = here.applies }) lead

  met_stepwise : (s here : AbstractState) (f : Start) (w : List ℕ) (p : ℕ) → HasNoModifier game.rules w → Run game w s here → Follows game.rules f (w ++ p ∷ []) → IsMet stepping game s f here.vertex p
  met_stepwise s here f w p none rest follows = first (refl, follows)
  met_stepwise s here f w p none (step {p = q} {w = m} {middle = middle} applied run) follows =
      let cut = (locality_law game.rules numbered f [] q (m ++ p ∷ [])).0.0 follows in
      let quiet = All-head (λ (k : ℕ). ¬ IsModifierAt game.rules k) q m none in
      let more : IsMet stepping game middle (after q) here.vertex p = met_stepwise middle here (after q) m p (All-tail (λ (k : ℕ). ¬ IsModifierAt game.rules k) q m none) run cut.1 in
      let on = going s middle q quiet applied in
      before_going s f q on.0 here.vertex p cut.0 on.2 (subst (λ (t : AbstractState). IsMet stepping game t (after q) here.vertex p) on.1 more)

  -- What is met is reached by words.
  record ByStepWords (s : AbstractState) (f : Start) (v p : ℕ) : Type 0 where
    pub before : List ℕ
    pub no_modifier : HasNoModifier game.rules before
    pub runs : Run game before s (at_vertex s v)
    pub follows : Follows game.rules f (before ++ p ∷ [])

  none_before : HasNoModifier game.rules []
  none_before = All-nil (λ (k : ℕ). ¬ IsModifierAt game.rules k)

  one_before : (q : ℕ) → ¬ IsModifierAt game.rules q → HasNoModifier game.rules (q ∷ [])
  one_before q quiet = All-cons (λ (k : ℕ). ¬ IsModifierAt game.rules k) q [] quiet none_before

  by_step_words : (s : AbstractState) (f : Start) (v p : ℕ) → IsMet stepping game s f v p → ByStepWords s f v p
  by_step_words s f v p (first lead) = record {
    before = [];
    no_modifier = none_before;
    runs = subst (λ (x : ℕ). Run game [] s (at_vertex s x)) (sym lead.0) rest;
    follows = lead.1;
  }
  by_step_words s f v p (then {v = w} {q = q} here is lead) =
      let so_far = by_step_words s f w q here in
      record {
        before = so_far.before ++ q ∷ [];
        no_modifier = all_joined so_far.before (q ∷ []) so_far.no_modifier (one_before q is.quiet);
        runs = Runs_join so_far.runs (step (moved s w q v lead.moves is) rest);
        follows = subst (λ (x : List ℕ). Follows game.rules f x) (sym (append_assoc so_far.before (q ∷ []) (p ∷ []))) ((locality_law game.rules numbered f so_far.before q (p ∷ [])).0.1 (so_far.follows, lead.follows));
      }

  ends_stepwise : (s here : AbstractState) (f : Start) (w : List ℕ) → HasNoModifier game.rules w → Run game w s here → Ends game.rules f w → EndsMet stepping game s f
  ends_stepwise s here f w none rest ends = inl ends
  ends_stepwise s here f w none (step {p = q} {w = m} {middle = middle} applied run) ends =
      let cut = (locality_law game.rules numbered f [] q m).1.0 ends in
      let quiet = All-head (λ (k : ℕ). ¬ IsModifierAt game.rules k) q m none in
      let more : EndsMet stepping game middle (after q) = ends_stepwise middle here (after q) m (All-tail (λ (k : ℕ). ¬ IsModifierAt game.rules k) q m none) run cut.1 in
      let on = going s middle q quiet applied in
      beyond s f q on.0 cut.0 on.2 (subst (λ (t : AbstractState). EndsMet stepping game t (after q)) on.1 more)
    where
      beyond : (s : AbstractState) (f : Start) (q u : ℕ) → Follows game.rules f (q ∷ []) → Going s q u → EndsMet stepping game (at_vertex s u) (after q) → EndsMet stepping game s f
      beyond s f q u follows going (inl end) = inr (record { vertex = s.vertex; position = q; met = first (refl, follows); holds = going.holds; ends = record { to = u; moves = going.moves; ends = end } })
      beyond s f q u follows going (inr end) = inr (record {
        vertex = end.vertex;
        position = end.position;
        met = before_going s f q u end.vertex end.position follows going end.met;
        holds = record { to = end.holds.to; quiet = end.holds.quiet; applies = end.holds.applies };
        ends = end.ends;
      })

  end_stepwise : (s : AbstractState) (f : Start) → EndsMet stepping game s f → MayEnd game s f
  end_stepwise s f (inl end) = record { before = []; here = s; no_modifier = none_before; runs = rest; ends = end }
  end_stepwise s f (inr end) =
      let words = by_step_words s f end.vertex end.position end.met in
      record {
        before = words.before ++ end.position ∷ [];
        here = at_vertex s end.ends.to;
        no_modifier = all_joined words.before (end.position ∷ []) words.no_modifier (one_before end.position end.holds.quiet);
        runs = Runs_join words.runs (step (moved s end.vertex end.position end.ends.to end.ends.moves end.holds) rest);
        ends = (locality_law game.rules numbered f words.before end.position []).1.1 (words.follows, end.ends.ends);
      }

-- ---- either way

pub part_of : (way : Way) (game : AbstractGame) → IsNumbered game.rules → (s : AbstractState) (f : Start) (v p : ℕ) → IsMet way game s f v p → IsOfPart way game s f v p
part_of leaping game numbered s f v p here = candidate_of game numbered s f v p here
part_of stepping game numbered s f v p here =
    let words = by_step_words game numbered s f v p here in
    record { before = words.before; here = at_vertex s v; no_modifier = words.no_modifier; runs = words.runs; vertex = refl; follows = words.follows }

pub met_of : (way : Way) (game : AbstractGame) → IsNumbered game.rules → (s : AbstractState) (f : Start) (v p : ℕ) → IsOfPart way game s f v p → IsMet way game s f v p
met_of leaping game numbered s f v p is = met_candidate game numbered s f v p is
met_of stepping game numbered s f v p is = subst (λ (x : ℕ). IsMet stepping game s f x p) is.vertex (met_stepwise game numbered s is.here f is.before p is.no_modifier is.runs is.follows)

pub met_end_of : (way : Way) (game : AbstractGame) → IsNumbered game.rules → (s : AbstractState) (f : Start) → MayEnd game s f → EndsMet way game s f
met_end_of leaping game numbered s f end = met_end game numbered s f end
met_end_of stepping game numbered s f end = ends_stepwise game numbered s end.here f end.before end.no_modifier end.runs end.ends

pub end_of : (way : Way) (game : AbstractGame) → IsNumbered game.rules → (s : AbstractState) (f : Start) → EndsMet way game s f → MayEnd game s f
end_of leaping game numbered s f end = end_met game numbered s f end
end_of stepping game numbered s f end = end_stepwise game numbered s f end

-- A candidate is part of it in either way, and all but shifts are candidates.
pub candidate_part : (way : Way) (game : AbstractGame) (s : AbstractState) (f : Start) (v p : ℕ) → IsCandidate game s f v p → IsOfPart way game s f v p
candidate_part leaping game s f v p is = is
candidate_part stepping game s f v p is = record { before = is.before; here = is.here; no_modifier = is.no_modifier; runs = is.runs; vertex = is.vertex; follows = is.follows }

pub part_candidate : (way : Way) (game : AbstractGame) (s : AbstractState) (f : Start) (v p : ℕ) → ¬ IsShiftAt game.rules p → IsOfPart way game s f v p → IsCandidate game s f v p
part_candidate leaping game s f v p plain is = is
part_candidate stepping game s f v p plain is = record { before = is.before; here = is.here; no_modifier = is.no_modifier; runs = is.runs; vertex = is.vertex; follows = is.follows; plain = plain }

-- No shift stands where a modifier does.
pub modifier_plain : (game : AbstractGame) → IsNumbered game.rules → (p : ℕ) → IsModifierAt game.rules p → ¬ IsShiftAt game.rules p
modifier_plain game numbered p modifies is = shift_quiet game numbered p is.direction is.stands modifies

pub chain_law : ChainLaw
chain_law way game numbered s f = (λ v p. (part_of way game numbered s f v p, met_of way game numbered s f v p), (end_of way game numbered s f, met_end_of way game numbered s f))
