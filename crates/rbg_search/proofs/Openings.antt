-- Openings after a modifier, or in a pattern, as openings of the question in which those stand.
use Rattle.rbg_base.proofs.Common.{◌≡◌, ℕ, List, [], ◌∷◌, ◌++◌, Bool, true, false, refl, sym, ap, ◌∙◌, subst, append_assoc, All, All-nil, All-cons, All-head, All-tail, All-append, All-weaker}
use Rattle.rbg_rules.specs.Meaning.{switch, Expression, IsNumbered, IsModifierAt, IsSwitchAt, IsPatternAt, HasNoModifier, HasNoSwitch, is_modifier, inside, WordOf, Start, beginning, after, Follows, Ends, AbstractGame, AbstractState, rest, step, Applies, Run, RunPairs, stay, modify, pass, Question, find_move, reach, pattern, Item, modifier_at, pattern_at, RunsOn, GoesTo, AnswersAfter, IsProperPrefix, Opening, at, beyond}
use Rattle.rbg_rules.proofs.PlaceLemmas.{RunPairs_join}
use Rattle.rbg_rules.proofs.PositionLemmas.{one_action_at}
use Rattle.rbg_rules.proofs.MoveLemmas.{Applies_one}
use Rattle.rbg_rules.proofs.LocalityLemmas.{locality_law}
use Rattle.rbg_search.proofs.Along.{IsNext, at_vertex, IsReached}
use Rattle.rbg_search.specs.Passing.{Passes, trying, finding, listing, asking}
use Rattle.rbg_search.proofs.Closures.{by_words, ends_at, next_found, quiet_place}

-- A switch is a modifier.
pub switch_modifies : (rules : Expression) (p : ℕ) → IsSwitchAt rules p → IsModifierAt rules p
switch_modifies rules p is = record { action = switch is.player; stands = is.stands; modifies = refl }

pub quiet_switches : (rules : Expression) (w : List ℕ) → HasNoModifier rules w → HasNoSwitch rules w
quiet_switches rules w none = All-weaker (λ p. ¬ IsModifierAt rules p) (λ p. ¬ IsSwitchAt rules p) (λ p no is. no (switch_modifies rules p is)) w none

-- A run without a modifier leaves no pair.
pub quiet_pairs : (game : AbstractGame) (w : List ℕ) (s t : AbstractState) → HasNoModifier game.rules w → Run game w s t → RunPairs game w s t []
quiet_pairs game w s t none rest = stay
quiet_pairs game w s t none (step {p = p} {w = m} {middle = middle} applied run) =
    by_kind (is_modifier applied.action) refl (quiet_pairs game m middle t (All-tail (λ (k : ℕ). ¬ IsModifierAt game.rules k) p m none) run)
  where
    by_kind : (b : Bool) → is_modifier applied.action ≡ b → RunPairs game m middle t [] → RunPairs game (p ∷ m) s t []
    by_kind true e more = absurd (All-head (λ (k : ℕ). ¬ IsModifierAt game.rules k) p m none (record { action = applied.action; stands = applied.stands; modifies = e }))
    by_kind false e more = pass applied e more

-- What follows with one position more follows without it.
word_is : {rules : Expression} {level : _} {w w' : List ℕ} → w ≡ w' → WordOf rules level w → WordOf rules level w'
word_is {rules} {level} e word = subst (WordOf rules level) e word

pub follows_less : (rules : Expression) (f : Start) (m : List ℕ) (p : ℕ) → Follows rules f (m ++ p ∷ []) → Follows rules f m
follows_less rules (beginning level) m p (z, word) = (p ∷ z, word_is (append_assoc m (p ∷ []) z) word)
follows_less rules (after i) m p (level, u, z, word) = (level, u, p ∷ z, word_is (ap (λ (y : List ℕ). u ++ i ∷ y) (append_assoc m (p ∷ []) z)) word)

-- A run with pairs goes, without a modifier, to the vertex of the first pair, and on from there by its modifier.
pub record CutRun (game : AbstractGame) (w : List ℕ) (s t : AbstractState) (v p : ℕ) (ps : List (ℕ × ℕ)) : Type 0 where
  pub before : List ℕ
  pub rest_of : List ℕ
  pub later : AbstractState
  pub joined : w ≡ before ++ p ∷ rest_of
  pub no_modifier : HasNoModifier game.rules before
  pub runs : Run game before s (at_vertex s v)
  pub applied : Applies game p (at_vertex s v) later
  pub modifies : IsModifierAt game.rules p
  pub onward : RunPairs game rest_of later t ps

-- What holds of a whole list holds of its end.
pub all_right : {X : Type 0} (P : X → Type 0) (xs ys : List X) → All P (xs ++ ys) → All P ys
all_right P [] ys all = all
all_right P (x ∷ xs) ys all = all_right P xs ys (All-tail P x (xs ++ ys) all)

heads : (a b : ℕ × ℕ) (xs ys : List (ℕ × ℕ)) → a ∷ xs ≡ b ∷ ys → (a ≡ b) × (xs ≡ ys)
heads a b xs ys e = (cc, cc)

module _ (game : AbstractGame) (numbered : IsNumbered game.rules) where
  -- A run that leaves no pair has no modifier.
  pub none_left : {w : List ℕ} {s t : AbstractState} → RunPairs game w s t [] → HasNoModifier game.rules w
  none_left stay = All-nil (λ (k : ℕ). ¬ IsModifierAt game.rules k)
  none_left (pass {p} {w} applied quiet run) = All-cons (λ (k : ℕ). ¬ IsModifierAt game.rules k) p w (quiet_place game numbered p applied quiet) (none_left run)

  pub cut_run : {w : List ℕ} {s t : AbstractState} {v p : ℕ} {ps : List (ℕ × ℕ)} → RunPairs game w s t ((v, p) ∷ ps) → CutRun game w s t v p ps
  cut_run (modify {w = w} {s = s} {middle = middle} applied modifies run) = record {
    before = [];
    rest_of = w;
    later = middle;
    joined = refl;
    no_modifier = All-nil (λ (k : ℕ). ¬ IsModifierAt game.rules k);
    runs = rest;
    applied = applied;
    modifies = record { action = applied.action; stands = applied.stands; modifies = modifies };
    onward = run;
  }
  cut_run {s = s} {v = v} {p = p} (pass {p = q} {middle = middle} applied quiet run) =
      let cut = cut_run run in
      let first : ¬ IsModifierAt game.rules q = quiet_place game numbered q applied quiet in
      let there : at_vertex middle v ≡ at_vertex s v =
      ap (λ (u : AbstractState). at_vertex u v) (ends_at game numbered s middle (q ∷ []) (All-cons (λ (k : ℕ). ¬ IsModifierAt game.rules k) q [] first (All-nil (λ (k : ℕ). ¬ IsModifierAt game.rules k))) (step applied rest)) in
      record {
        before = q ∷ cut.before;
        rest_of = cut.rest_of;
        later = cut.later;
        joined = ap (λ (xs : List ℕ). q ∷ xs) cut.joined;
        no_modifier = All-cons (λ (k : ℕ). ¬ IsModifierAt game.rules k) q cut.before first cut.no_modifier;
        runs = step applied (subst (λ (u : AbstractState). Run game cut.before middle u) there cut.runs);
        applied = subst (λ (u : AbstractState). Applies game p u cut.later) there cut.applied;
        modifies = cut.modifies;
        onward = cut.onward;
      }

  -- Its first modifier comes next.
  pub cut_next : {w : List ℕ} {s t : AbstractState} {f : Start} {v p : ℕ} {ps : List (ℕ × ℕ)} (cut : CutRun game w s t v p ps) → Follows game.rules f (cut.before ++ p ∷ []) → IsNext game s f v p
  cut_next {s = s} {v = v} cut follows = record {
    before = cut.before;
    here = at_vertex s v;
    later = cut.later;
    no_modifier = cut.no_modifier;
    runs = cut.runs;
    vertex = refl;
    follows = follows;
    modifies = cut.modifies;
    applies = cut.applied;
  }

  -- What follows the run follows what is after that.
  pub cut_follows : {w : List ℕ} {s t : AbstractState} (f : Start) {v p : ℕ} {ps : List (ℕ × ℕ)} (cut : CutRun game w s t v p ps) (more : List ℕ) → Follows game.rules f (w ++ more) → Follows game.rules (after p) (cut.rest_of ++ more)
  cut_follows {w} f {p = p} cut more follows =
      let whole : w ++ more ≡ cut.before ++ p ∷ (cut.rest_of ++ more) = ap (λ (x : List ℕ). x ++ more) cut.joined ∙ append_assoc cut.before (p ∷ cut.rest_of) more in
      ((locality_law game.rules numbered f cut.before p (cut.rest_of ++ more)).0.0 (subst (Follows game.rules f) whole follows)).1

  -- A modifier that comes next is applied with the pair's vertex as the current one, where nothing else is new.
  pub next_here : (s : AbstractState) (f : Start) (v p : ℕ) (next : IsNext game s f v p) → next.here ≡ at_vertex s v
  next_here s f v p next = ends_at game numbered s next.here next.before next.no_modifier next.runs ∙ ap (λ (x : ℕ). at_vertex s x) next.vertex

  pub next_applies : (s : AbstractState) (f : Start) (v p : ℕ) (next : IsNext game s f v p) → Applies game p (at_vertex s v) next.later
  next_applies s f v p next = subst (λ (u : AbstractState). Applies game p u next.later) (next_here s f v p next) next.applies

  -- A run after the modifier is one from before it, with its pair.
  pub lifted_run : (s later : AbstractState) (f : Start) (v p : ℕ) → IsNext game s f v p → Applies game p (at_vertex s v) later → ¬ IsSwitchAt game.rules p → (m : List ℕ) (t : AbstractState) (ps : List (ℕ × ℕ)) → RunsOn game later (after p) m t ps → (w : List ℕ) × RunsOn game s f (w ++ p ∷ m) t ((v, p) ∷ ps) × Follows game.rules f (w ++ p ∷ [])
  lifted_run s later f v p next applies plain m t ps on =
      let words = by_words game numbered s f v p (next_found game numbered s f v p next).reached in
      let modifies : is_modifier applies.action ≡ true = ap is_modifier (one_action_at game.rules numbered p applies.action next.modifies.action applies.stands next.modifies.stands) ∙ next.modifies.modifies in
      let first_part : RunPairs game words.before s (at_vertex s v) [] = quiet_pairs game words.before s (at_vertex s v) words.no_modifier words.runs in
      let second_part : RunPairs game (p ∷ m) (at_vertex s v) t ((v, p) ∷ ps) = modify applies modifies on.runs in (
        words.before,
        record {
          no_switch = All-append (λ k. ¬ IsSwitchAt game.rules k) words.before (p ∷ m) (quiet_switches game.rules words.before words.no_modifier) (All-cons (λ k. ¬ IsSwitchAt game.rules k) p m plain on.no_switch);
          follows = (locality_law game.rules numbered f words.before p m).0.1 (words.follows, on.follows);
          runs = RunPairs_join first_part second_part;
        },
        words.follows,
      )

  -- After its first modifier a run goes on.
  pub record GoesThrough (s : AbstractState) (f : Start) (m : List ℕ) (t : AbstractState) (v p : ℕ) (ps : List (ℕ × ℕ)) : Type 0 where
    pub cut : CutRun game m s t v p ps
    pub next : IsNext game s f v p
    pub plain : ¬ IsSwitchAt game.rules p
    pub on : RunsOn game cut.later (after p) cut.rest_of t ps

  pub goes_through : (s : AbstractState) (f : Start) (m : List ℕ) (t : AbstractState) (v p : ℕ) (ps : List (ℕ × ℕ)) → RunsOn game s f m t ((v, p) ∷ ps) → GoesThrough s f m t v p ps
  goes_through s f m t v p ps on =
      let cut : CutRun game m s t v p ps = cut_run on.runs in
      let follows : Follows game.rules f (cut.before ++ p ∷ cut.rest_of) = subst (Follows game.rules f) cut.joined on.follows in
      let parts = (locality_law game.rules numbered f cut.before p cut.rest_of).0.0 follows in
      let no_switch : HasNoSwitch game.rules (cut.before ++ p ∷ cut.rest_of) = subst (HasNoSwitch game.rules) cut.joined on.no_switch in
      let after_it : HasNoSwitch game.rules (p ∷ cut.rest_of) = all_right (λ k. ¬ IsSwitchAt game.rules k) cut.before (p ∷ cut.rest_of) no_switch in
      record {
        cut = cut;
        next = cut_next cut parts.0;
        plain = All-head (λ k. ¬ IsSwitchAt game.rules k) p cut.rest_of after_it;
        on = record {
          no_switch = All-tail (λ k. ¬ IsSwitchAt game.rules k) p cut.rest_of after_it;
          follows = parts.1;
          runs = cut.onward;
        };
      }

  pub after_runs_on : (s later t : AbstractState) (f : Start) (v p : ℕ) (m : List ℕ) (ps : List (ℕ × ℕ)) → Applies game p (at_vertex s v) later → RunsOn game s f m t ((v, p) ∷ ps) → (cut : CutRun game m s t v p ps) × RunsOn game later (after p) cut.rest_of t ps
  after_runs_on s later t f v p m ps applies on =
      let goes = goes_through s f m t v p ps on in
      (goes.cut, subst (λ (u : AbstractState). RunsOn game u (after p) goes.cut.rest_of t ps) (Applies_one game numbered p goes.cut.applied applies) goes.on)

  -- An answer after the modifier is one after its pair.
  find_after : (s later : AbstractState) (f : Start) (v p : ℕ) (ps : List (ℕ × ℕ)) → Applies game p (at_vertex s v) later → AnswersAfter game find_move s f ((v, p) ∷ ps) → AnswersAfter game find_move later (after p) ps
  find_after s later f v p ps applies (m, t, q, on, follows, switches) =
      let (cut, more) = after_runs_on s later t f v p m ps applies on in
      (cut.rest_of, t, q, more, cut_follows f cut (q ∷ []) follows, switches)

  ask_after : (s later : AbstractState) (f : Start) (v p : ℕ) (ps : List (ℕ × ℕ)) → Applies game p (at_vertex s v) later → AnswersAfter game pattern s f ((v, p) ∷ ps) → AnswersAfter game pattern later (after p) ps
  ask_after s later f v p ps applies (m, t, on, ends) =
      let (cut, more) = after_runs_on s later t f v p m ps applies on in
      let there : Ends game.rules f (cut.before ++ p ∷ cut.rest_of) = subst (Ends game.rules f) cut.joined ends in
      (cut.rest_of, t, more, ((locality_law game.rules numbered f cut.before p cut.rest_of).1.0 there).1)

  -- The second question goes where the first one goes after the modifier.
  not_before : (Answers Later : List (ℕ × ℕ) → Type 0) (v p : ℕ) (ps : List (ℕ × ℕ)) → ¬ Answers [] → ((qs : List (ℕ × ℕ)) → Answers ((v, p) ∷ qs) → Later qs) → ((qs : List (ℕ × ℕ)) → IsProperPrefix qs ps → ¬ Later qs) → (qs : List (ℕ × ℕ)) → IsProperPrefix qs ((v, p) ∷ ps) → ¬ Answers qs
  not_before Answers Later v p ps none onward goes [] prefix answers = none answers
  not_before Answers Later v p ps none onward goes (q ∷ qs) (more, some, e) answers =
      let (head, tail) = heads (v, p) q ps (qs ++ more) e in
      goes qs (more, some, tail) (onward qs (subst (λ (x : ℕ × ℕ). Answers (x ∷ qs)) (sym head) answers))

  pub goes_after : (s later : AbstractState) (f : Start) (v p : ℕ) → Applies game p (at_vertex s v) later → (question question' : Question) → Passes game s f v p question question' → (ps : List (ℕ × ℕ)) → GoesTo game question' later (after p) ps → GoesTo game question s f ((v, p) ∷ ps)
  goes_after s later f v p applies question question' trying ps (more, some, e) = (more, some, ap (λ (xs : List (ℕ × ℕ)). (v, p) ∷ xs) e)
  goes_after s later f v p applies question question' (finding none) ps goes =
      not_before (AnswersAfter game find_move s f) (AnswersAfter game find_move later (after p)) v p ps none (λ qs. find_after s later f v p qs applies) goes
  goes_after s later f v p applies question question' listing ps goes = tt
  goes_after s later f v p applies question question' (asking none) ps goes =
      not_before (AnswersAfter game pattern s f) (AnswersAfter game pattern later (after p)) v p ps none (λ qs. ask_after s later f v p qs applies) goes

  -- An opening of the question after the modifier is one of the question before it, with the modifier in front.
  pub lifted : (s later : AbstractState) (f : Start) (v p : ℕ) → IsNext game s f v p → Applies game p (at_vertex s v) later → ¬ IsSwitchAt game.rules p → (question question' : Question) → Passes game s f v p question question' → (o : List Item) → Opening game question' later (after p) o → Opening game question s f (modifier_at v p ∷ o)
  lifted s later f v p next applies plain question question' passes o (at {m = m} {t = t} {ps = ps} on goes) =
      let (w, run, _) = lifted_run s later f v p next applies plain m t ps on in
      at run (goes_after s later f v p applies question question' passes ps goes)
  lifted s later f v p next applies plain question question' passes o (beyond {m = m} {t = t} {ps = ps} {p = q} {more = more} on goes follows is opening) =
      let (w, run, reaches) = lifted_run s later f v p next applies plain m t ps on in
      let joined : w ++ p ∷ (m ++ q ∷ []) ≡ (w ++ p ∷ m) ++ q ∷ [] = sym (append_assoc w (p ∷ m) (q ∷ [])) in
      let there : Follows game.rules f ((w ++ p ∷ m) ++ q ∷ []) = subst (Follows game.rules f) joined ((locality_law game.rules numbered f w p (m ++ q ∷ [])).0.1 (reaches, follows)) in
      beyond run (goes_after s later f v p applies question question' passes ps goes) there is opening

  -- An opening of the question of a pattern that is reached is one of the question in which it is reached.
  pub in_pattern : (question : Question) (s : AbstractState) (f : Start) (v p : ℕ) → GoesTo game question s f [] → IsReached game s f v p → IsPatternAt game.rules p → (o : List Item) → Opening game pattern (at_vertex s v) (beginning (inside p)) o → Opening game question s f (pattern_at v p ∷ o)
  in_pattern question s f v p goes reached is o opening =
      let words = by_words game numbered s f v p reached in
      let on : RunsOn game s f words.before (at_vertex s v) [] = record {
        no_switch = quiet_switches game.rules words.before words.no_modifier;
        follows = follows_less game.rules f words.before p words.follows;
        runs = quiet_pairs game words.before s (at_vertex s v) words.no_modifier words.runs;
      } in
      beyond {m = words.before} {t = at_vertex s v} {ps = []} on goes words.follows is opening

-- An opening of `reach` is one of every question that goes as far as no modifier.
pub reach_opens : (game : AbstractGame) (question : Question) (s : AbstractState) (f : Start) → GoesTo game question s f [] → (o : List Item) → Opening game reach s f o → Opening game question s f o
reach_opens game question s f goes o (at on none) = at on (subst (GoesTo game question s f) (sym none) goes)
reach_opens game question s f goes o (beyond on none follows is opening) = beyond on (subst (GoesTo game question s f) (sym none) goes) follows is opening
