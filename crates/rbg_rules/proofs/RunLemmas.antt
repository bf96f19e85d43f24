-- What follows of runs: they join, and an action, and so a run, has one result.
use Rattle.std.proofs.Common.{◌≡◌, ℕ, List, [], ◌∷◌, ◌++◌, sym, ap, ◌∙◌, slice_set}
use Rattle.rbg_rules.specs.Expression.{AbstractAction, shift, on, off, assignment, comparison, switch, positive, negative}
use Rattle.rbg_rules.specs.State.{AbstractGame, AbstractState}
use Rattle.rbg_rules.specs.Actions.{Runs, rest, step, Acts}

-- A run of a joined list is a run and then a run.
pub Runs-append : {Does : ℕ → AbstractState → AbstractState → Type 0} (u v : List ℕ) {s t : AbstractState} → Runs Does (u ++ v) s t → (middle : AbstractState) × Runs Does u s middle × Runs Does v middle t
Runs-append [] v {s} run = (s, rest, run)
Runs-append (p ∷ u) v (step does run) =
    let cut = Runs-append u v run in
    (cut.0, step does cut.1, cut.2)

pub Runs_join : {Does : ℕ → AbstractState → AbstractState → Type 0} {u v : List ℕ} {s middle t : AbstractState} → Runs Does u s middle → Runs Does v middle t → Runs Does (u ++ v) s t
Runs_join rest run = run
Runs_join (step does before) run = step does (Runs_join before run)

-- An action has one result.
pub Acts_one : (game : AbstractGame) (a : AbstractAction) (s : AbstractState) {t t' : AbstractState} → Acts game a s t → Acts game a s t' → t ≡ t'
Acts_one game (shift d) s (v, e, is) (v', e', is') =
    let same : v ≡ v' = cc in
    is ∙ ap (λ (u : ℕ). let r : AbstractState = record s { vertex = u } in r) same ∙ sym is'
Acts_one game (on xs) s (_, is) (_, is') = is ∙ sym is'
Acts_one game (off x) s is is' = is ∙ sym is'
Acts_one game (assignment v e) s (n, h, _, is) (n', h', _, is') =
    let same : n ≡ n' = cc in
    is ∙ ap (λ (u : ℕ). let r : AbstractState = record s { values = slice_set s.values v u } in r) same ∙ sym is'
Acts_one game (comparison e r f) s (_, _, _, _, _, is) (_, _, _, _, _, is') = is ∙ sym is'
Acts_one game (switch n) s is is' = is ∙ sym is'
Acts_one game (positive x) s (_, is) (_, is') = is ∙ sym is'
Acts_one game (negative x) s (_, is) (_, is') = is ∙ sym is'
