-- The results of runs and moves: an action at a position has one result, a pattern changes nothing, and pairs reach one place.
use Rattle.std.proofs.Common.{◌≡◌, ℕ, List, refl, subst, inl, inr}
use Rattle.rbg_rules.specs.Expression.{AbstractAction, positive, negative}
use Rattle.rbg_rules.specs.Positions.{HasAction, IsNumbered}
use Rattle.rbg_rules.specs.Words.{Word}
use Rattle.rbg_rules.specs.State.{AbstractGame, AbstractState}
use Rattle.rbg_rules.specs.Actions.{rest, step, Acts, Applies, Run}
use Rattle.rbg_rules.specs.Laws.{RunLaw, OneRunLaw, PatternLaw, PositiveLaw, NegativeLaw}
use Rattle.rbg_rules.proofs.PositionLemmas.{one_action_at}
use Rattle.rbg_rules.proofs.RunLemmas.{Acts_one, Runs-append, Runs_join}
use Rattle.rbg_rules.proofs.PatternLemmas.{inside_runs, runs_inside, positive_inside, negative_inside}

-- What the action at a position does is what any action at that position does.
pub applied_acts : (game : AbstractGame) → IsNumbered game.rules → (p : ℕ) (a : AbstractAction) → HasAction game.rules p a → {s t : AbstractState} → Applies game p s t → Acts game a s t
applied_acts game numbered p a stands {s} {t} applied =
    subst (λ (b : AbstractAction). Acts game b s t) (one_action_at game.rules numbered p applied.action a applied.stands stands) applied.acts

pub Applies_one : (game : AbstractGame) → IsNumbered game.rules → (p : ℕ) {s t t' : AbstractState} → Applies game p s t → Applies game p s t' → t ≡ t'
Applies_one game numbered p {s} one other = Acts_one game one.action s one.acts (applied_acts game numbered p one.action one.stands other)

pub Run_one : (game : AbstractGame) → IsNumbered game.rules → {w : List ℕ} {s t t' : AbstractState} → Run game w s t → Run game w s t' → t ≡ t'
Run_one game numbered rest rest = refl
Run_one game numbered (step {p} {w} {s} {middle} {t} applied run) (step {middle = middle'} {t = t'} applied' run') =
    Run_one game numbered run (subst (λ (m : AbstractState). Run game w m t') (Applies_one game numbered p applied' applied) run')

pub run_law : RunLaw
run_law game u v s t = (Runs-append u v, (λ (middle, before, after). Runs_join before after))

pub one_run_law : OneRunLaw
one_run_law game numbered w s t t' one other = Run_one game numbered one other

pub pattern_law : PatternLaw
pattern_law game numbered p x stands s t applied = elim stands [
  | inl h ↦ (applied_acts game numbered p (positive x) h applied).1
  | inr h ↦ (applied_acts game numbered p (negative x) h applied).1
]

pub positive_law : PositiveLaw
positive_law game numbered p x stands s = (to, from)
  where
    to : Applies game p s s → (w : List ℕ) × (end : AbstractState) × Word x w × Run game w s end
    to applied =
        let ((w, end, word, run), _) = applied_acts game numbered p (positive x) stands applied in
        (w, end, word, inside_runs game x (positive_inside game.rules p x stands) run)

    from : (w : List ℕ) × (end : AbstractState) × Word x w × Run game w s end → Applies game p s s
    from (w, end, word, run) = record { action = positive x; stands = stands; acts = ((w, end, word, runs_inside game numbered x (positive_inside game.rules p x stands) word run), refl) }

pub negative_law : NegativeLaw
negative_law game numbered p x stands s = (to, from)
  where
    to : Applies game p s s → (w : List ℕ) (end : AbstractState) → Word x w → ¬ Run game w s end
    to applied w end word run = (applied_acts game numbered p (negative x) stands applied).0 (w, end, word, runs_inside game numbered x (negative_inside game.rules p x stands) word run)

    from : ((w : List ℕ) (end : AbstractState) → Word x w → ¬ Run game w s end) → Applies game p s s
    from none = record { action = negative x; stands = stands; acts = ((λ (w, end, word, run). none w end word (inside_runs game x (negative_inside game.rules p x stands) run)), refl) }
