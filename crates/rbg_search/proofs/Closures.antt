-- What is reached step by step is what runs without a modifier reach.
use Rattle.rbg_base.proofs.Common.{◌≡◌, ℕ, ◌⊎◌, List, [], ◌∷◌, ◌++◌, Bool, true, false, refl, sym, ap, ◌∙◌, subst, inl, inr, append_assoc, All-nil, All-head, All-tail, All-push}
use Rattle.rbg_rules.specs.Meaning.{IsNumbered, IsModifierAt, HasNoModifier, is_modifier, Start, after, Follows, Ends, AbstractGame, AbstractState, rest, step, Applies, Run, RunPairs, stay, modify, pass, SomeWordRuns, SameButVertex}
use Rattle.rbg_rules.proofs.RunLemmas.{Runs_join}
use Rattle.rbg_rules.proofs.PositionLemmas.{one_action_at}
use Rattle.rbg_rules.proofs.PlaceLemmas.{quiet_acts, same_state, RunPairs_join, Runs-RunPairs}
use Rattle.rbg_rules.proofs.LocalityLemmas.{locality_law}
use Rattle.rbg_flat.specs.Candidates.{MayEnd}
use Rattle.rbg_search.proofs.Along.{IsNext, at_vertex, Leads, IsReached, first, then, IsFound, EndsFlat, RunsAfter}

-- An action that stands where no modifier does is none.
pub quiet_action : (game : AbstractGame) (p : ℕ) {s t : AbstractState} (applied : Applies game p s t) → ¬ IsModifierAt game.rules p → is_modifier applied.action ≡ false
quiet_action game p applied quiet = by_kind (is_modifier applied.action) refl
  where
    by_kind : (b : Bool) → is_modifier applied.action ≡ b → b ≡ false
    by_kind false e = refl
    by_kind true e = absurd (quiet (record { action = applied.action; stands = applied.stands; modifies = e }))

-- .. so it moves at most the current vertex.
pub quiet_moves : (game : AbstractGame) (p : ℕ) (s t : AbstractState) → ¬ IsModifierAt game.rules p → Applies game p s t → t ≡ at_vertex s t.vertex
quiet_moves game p s t quiet applied =
    let same : SameButVertex s t = quiet_acts game applied.action s t (quiet_action game p applied quiet) applied.acts in
    sym (same_state (record { player = same.player; pieces = same.pieces; values = same.values }) refl)

-- An action that is none where it is applied is none at all.
pub quiet_place : (game : AbstractGame) → IsNumbered game.rules → (p : ℕ) {s t : AbstractState} (applied : Applies game p s t) → is_modifier applied.action ≡ false → ¬ IsModifierAt game.rules p
quiet_place game numbered p applied quiet other =
    let same : applied.action ≡ other.action = one_action_at game.rules numbered p applied.action other.action applied.stands other.stands in
    true_not_false (sym other.modifies ∙ ap is_modifier (sym same) ∙ quiet)
  where
    true_not_false : true ≡ false → ⊥
    true_not_false e = cc

module _ (game : AbstractGame) (numbered : IsNumbered game.rules) where
  -- From after a quiet action one reaches nothing new.
  onward : (s : AbstractState) (f : Start) (v q u : ℕ) → IsReached game s f v q → Leads game s v q u → (w p : ℕ) → IsReached game (at_vertex s u) (after q) w p → IsReached game s f w p
  onward s f v q u here leads w p (first same follows) = then here (subst (λ (x : ℕ). Leads game s v q x) (sym same) leads) follows
  onward s f v q u here leads w p (then {v = x} {q = r} so_far moves follows) = then (onward s f v q u here leads x r so_far) (record { quiet = moves.quiet; applies = moves.applies }) follows

  -- What is reached by words is reached step by step.
  pub reached : (s here : AbstractState) (f : Start) (w : List ℕ) (p : ℕ) → HasNoModifier game.rules w → Run game w s here → Follows game.rules f (w ++ p ∷ []) → IsReached game s f here.vertex p
  reached s here f w p none rest follows = first refl follows
  reached s here f w p none (step {p = q} {w = m} {middle = middle} applied run) follows =
      let cut = (locality_law game.rules numbered f [] q (m ++ p ∷ [])).0.0 follows in
      let quiet = All-head (λ (k : ℕ). ¬ IsModifierAt game.rules k) q m none in
      let moved : middle ≡ at_vertex s middle.vertex = quiet_moves game q s middle quiet applied in
      let leads : Leads game s s.vertex q middle.vertex = record { quiet = quiet; applies = subst (λ (t : AbstractState). Applies game q s t) moved applied } in
      let more : IsReached game middle (after q) here.vertex p = reached middle here (after q) m p (All-tail (λ (k : ℕ). ¬ IsModifierAt game.rules k) q m none) run cut.1 in
      onward s f s.vertex q middle.vertex (first refl cut.0) leads here.vertex p (subst (λ (t : AbstractState). IsReached game t (after q) here.vertex p) moved more)

  -- What is reached step by step is reached by words.
  pub record ByWords (s : AbstractState) (f : Start) (v p : ℕ) : Type 0 where
    pub before : List ℕ
    pub no_modifier : HasNoModifier game.rules before
    pub runs : Run game before s (at_vertex s v)
    pub follows : Follows game.rules f (before ++ p ∷ [])

  standing : (s : AbstractState) (v : ℕ) → v ≡ s.vertex → Run game [] s (at_vertex s v)
  standing s v e = subst (λ (x : ℕ). Run game [] s (at_vertex s x)) (sym e) rest

  pub by_words : (s : AbstractState) (f : Start) (v p : ℕ) → IsReached game s f v p → ByWords s f v p
  by_words s f v p (first same follows) = record { before = []; no_modifier = All-nil (λ (k : ℕ). ¬ IsModifierAt game.rules k); runs = standing s v same; follows = follows }
  by_words s f v p (then {v = w} {q = q} here leads follows) =
      let so_far = by_words s f w q here in
      let joined : (so_far.before ++ q ∷ []) ++ p ∷ [] ≡ so_far.before ++ q ∷ p ∷ [] = append_assoc so_far.before (q ∷ []) (p ∷ []) in
      record {
        before = so_far.before ++ q ∷ [];
        no_modifier = All-push (λ (k : ℕ). ¬ IsModifierAt game.rules k) so_far.before q so_far.no_modifier leads.quiet;
        runs = Runs_join so_far.runs (step leads.applies rest);
        follows = subst (λ (m : List ℕ). Follows game.rules f m) (sym joined) ((locality_law game.rules numbered f so_far.before q (p ∷ [])).0.1 (so_far.follows, follows));
      }

  -- Where a run without a modifier ends, nothing but the vertex is new.
  pub ends_at : (s here : AbstractState) (w : List ℕ) → HasNoModifier game.rules w → Run game w s here → here ≡ at_vertex s here.vertex
  ends_at s here w none rest = refl
  ends_at s here w none (step {p = q} {w = m} {middle = middle} applied run) =
      let quiet = All-head (λ (k : ℕ). ¬ IsModifierAt game.rules k) q m none in
      let moved : middle ≡ at_vertex s middle.vertex = quiet_moves game q s middle quiet applied in
      let end : here ≡ at_vertex middle here.vertex = ends_at middle here m (All-tail (λ (k : ℕ). ¬ IsModifierAt game.rules k) q m none) run in
      end ∙ ap (λ (t : AbstractState). at_vertex t here.vertex) moved

  -- The modifiers that are found are those that come next.
  pub found_next : (s : AbstractState) (f : Start) (v p : ℕ) → IsFound game s f v p → IsNext game s f v p
  found_next s f v p found =
      let words = by_words s f v p found.reached in
      record { before = words.before; here = at_vertex s v; later = found.later; no_modifier = words.no_modifier; runs = words.runs; vertex = refl; follows = words.follows; modifies = found.modifies; applies = found.applies }

  pub next_found : (s : AbstractState) (f : Start) (v p : ℕ) → IsNext game s f v p → IsFound game s f v p
  next_found s f v p next =
      let here : next.here ≡ at_vertex s v = ends_at s next.here next.before next.no_modifier next.runs ∙ ap (λ (x : ℕ). at_vertex s x) next.vertex in
      record {
        later = next.later;
        reached = subst (λ (x : ℕ). IsReached game s f x p) next.vertex (reached s next.here f next.before p next.no_modifier next.runs next.follows);
        modifies = next.modifies;
        applies = subst (λ (t : AbstractState). Applies game p t next.later) here next.applies;
      }

  -- The end is reached step by step where it is reached by words.
  onward_end : (s : AbstractState) (f : Start) (q u : ℕ) → Follows game.rules f (q ∷ []) → Leads game s s.vertex q u → EndsFlat game (at_vertex s u) (after q) → EndsFlat game s f
  onward_end s f q u follows leads (inl ends) =
      inr (record { vertex = s.vertex; position = q; reached = first refl follows; leads = record { to = u; leads = leads; ends = ends } })
  onward_end s f q u follows leads (inr end) =
      let here = onward s f s.vertex q u (first refl follows) leads end.vertex end.position end.reached in
      inr (record { vertex = end.vertex; position = end.position; reached = here; leads = record { to = end.leads.to; leads = record { quiet = end.leads.leads.quiet; applies = end.leads.leads.applies }; ends = end.leads.ends } })

  pub reached_end : (s here : AbstractState) (f : Start) (w : List ℕ) → HasNoModifier game.rules w → Run game w s here → Ends game.rules f w → EndsFlat game s f
  reached_end s here f w none rest ends = inl ends
  reached_end s here f w none (step {p = q} {w = m} {middle = middle} applied run) ends =
      let cut = (locality_law game.rules numbered f [] q m).1.0 ends in
      let quiet = All-head (λ (k : ℕ). ¬ IsModifierAt game.rules k) q m none in
      let moved : middle ≡ at_vertex s middle.vertex = quiet_moves game q s middle quiet applied in
      let leads : Leads game s s.vertex q middle.vertex = record { quiet = quiet; applies = subst (λ (t : AbstractState). Applies game q s t) moved applied } in
      let more = reached_end middle here (after q) m (All-tail (λ (k : ℕ). ¬ IsModifierAt game.rules k) q m none) run cut.1 in
      onward_end s f q middle.vertex cut.0 leads (subst (λ (t : AbstractState). EndsFlat game t (after q)) moved more)

  pub may_end_flat : (s : AbstractState) (f : Start) → MayEnd game s f → EndsFlat game s f
  may_end_flat s f end = reached_end s end.here f end.before end.no_modifier end.runs end.ends

  pub flat_may_end : (s : AbstractState) (f : Start) → EndsFlat game s f → MayEnd game s f
  flat_may_end s f (inl ends) = record { before = []; here = s; no_modifier = All-nil (λ (k : ℕ). ¬ IsModifierAt game.rules k); runs = rest; ends = ends }
  flat_may_end s f (inr end) =
      let words = by_words s f end.vertex end.position end.reached in
      record {
        before = words.before ++ end.position ∷ [];
        here = at_vertex s end.leads.to;
        no_modifier = All-push (λ (k : ℕ). ¬ IsModifierAt game.rules k) words.before end.position words.no_modifier end.leads.leads.quiet;
        runs = Runs_join words.runs (step end.leads.leads.applies rest);
        ends = (locality_law game.rules numbered f words.before end.position []).1.1 (words.follows, end.leads.ends);
      }

  -- A word runs where a word may end with no modifier more, or where one runs after a modifier that comes next.
  onward_after : (s : AbstractState) (f : Start) (q u : ℕ) → Follows game.rules f (q ∷ []) → Leads game s s.vertex q u → RunsAfter game (at_vertex s u) (after q) → RunsAfter game s f
  onward_after s f q u follows leads beyond =
      let here = onward s f s.vertex q u (first refl follows) leads beyond.vertex beyond.position beyond.found.reached in
      record { vertex = beyond.vertex; position = beyond.position; found = record { later = beyond.found.later; reached = here; modifies = beyond.found.modifies; applies = beyond.found.applies }; runs = beyond.runs }

  either_way : {A B C D : Type 0} → (A → C) → (B → D) → A ⊎ B → C ⊎ D
  either_way f g (inl x) = inl (f x)
  either_way f g (inr y) = inr (g y)

  word_runs : {s t : AbstractState} {w : List ℕ} {ps : List (ℕ × ℕ)} (f : Start) → RunPairs game w s t ps → Ends game.rules f w → EndsFlat game s f ⊎ RunsAfter game s f
  word_runs f stay ends = inl (inl ends)
  word_runs f (modify {p = p} {w = m} {s = s} {middle = middle} {t = t} {ps = ps} applied modifies run) ends =
      let cut = (locality_law game.rules numbered f [] p m).1.0 ends in
      inr (record {
        vertex = s.vertex;
        position = p;
        found = record { later = middle; reached = first refl cut.0; modifies = record { action = applied.action; stands = applied.stands; modifies = modifies }; applies = applied };
        runs = record { word = m; end = t; pairs = ps; ends = cut.1; runs = run };
      })
  word_runs f (pass {p = q} {w = m} {s = s} {middle = middle} applied quiet run) ends =
      let cut = (locality_law game.rules numbered f [] q m).1.0 ends in
      let none = quiet_place game numbered q applied quiet in
      let moved : middle ≡ at_vertex s middle.vertex = quiet_moves game q s middle none applied in
      let leads : Leads game s s.vertex q middle.vertex = record { quiet = none; applies = subst (λ (t : AbstractState). Applies game q s t) moved applied } in
      let more = word_runs (after q) run cut.1 in
      either_way
      (λ end. onward_end s f q middle.vertex cut.0 leads (subst (λ (t : AbstractState). EndsFlat game t (after q)) moved end))
      (λ beyond. onward_after s f q middle.vertex cut.0 leads (subst (λ (t : AbstractState). RunsAfter game t (after q)) moved beyond)) more

  pub some_word_runs : (s : AbstractState) (f : Start) → SomeWordRuns game s f → EndsFlat game s f ⊎ RunsAfter game s f
  some_word_runs s f some = word_runs f some.runs some.ends

  pub end_runs : (s : AbstractState) (f : Start) → EndsFlat game s f → SomeWordRuns game s f
  end_runs s f end =
      let may = flat_may_end s f end in
      let pairs = Runs-RunPairs may.runs in
      record { word = may.before; end = may.here; pairs = pairs.0; ends = may.ends; runs = pairs.1 }

  pub after_runs : (s : AbstractState) (f : Start) → RunsAfter game s f → SomeWordRuns game s f
  after_runs s f beyond =
      let words = by_words s f beyond.vertex beyond.position beyond.found.reached in
      let first_part = Runs-RunPairs words.runs in
      let modifier = Runs-RunPairs (step beyond.found.applies rest) in
      record {
        word = words.before ++ beyond.position ∷ beyond.runs.word;
        end = beyond.runs.end;
        pairs = first_part.0 ++ (modifier.0 ++ beyond.runs.pairs);
        ends = (locality_law game.rules numbered f words.before beyond.position beyond.runs.word).1.1 (words.follows, beyond.runs.ends);
        runs = RunPairs_join first_part.1 (RunPairs_join modifier.1 beyond.runs.runs);
      }
