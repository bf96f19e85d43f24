-- What a pattern's answer is by the words of its inside.
use Rattle.std.proofs.Common.{◌≡◌, ℕ, Bool, true, false, not, refl, sym, IsTrue, ◌↔◌}
use Rattle.rbg_rules.specs.Meaning.{AbstractAction, shift, off, switch, HasAction, IsNumbered, IsPatternAt, inside, is_pattern, beginning, AbstractGame, AbstractState, Applies, SomeWordRuns, IsActionAt}
use Rattle.rbg_rules.specs.declared.rule.Action.{Action}
use Rattle.rbg_rules.specs.declared.rule.Action.TheVariants.{Shift, On, Off, Assign, Compare, Switch, Positive, Negative}
use Rattle.rbg_rules.proofs.AnswerLemmas.{answer_law}
use Rattle.rbg_rules.proofs.TableLemmas.{plain_stands}
use Rattle.rbg_search.specs.internal.Shown.{shows_negative}

false_not_true : false ≡ true → ⊥
false_not_true e = cc

-- A test of the contrary.
none_true : (runs : Bool) (S A : Type 0) → IsTrue runs ↔ S → A ↔ (¬ S) → IsTrue (not runs) ↔ A
none_true true S A decides valid = ((λ e. absurd (false_not_true e)), (λ a. absurd (valid.0 a (decides.0 refl))))
none_true false S A decides valid = ((λ e. valid.1 (λ s. false_not_true (decides.1 s))), (λ a. refl))

module _ (game : AbstractGame) (numbered : IsNumbered game.rules) (p : ℕ) (pattern : IsPatternAt game.rules p) (s : AbstractState) (runs : Bool) (decides : IsTrue runs ↔ SomeWordRuns game s (beginning (inside p))) where
  plain : {B : Type 0} (a : AbstractAction) → is_pattern a ≡ false → HasAction game.rules p a → B
  plain a is stands = absurd (plain_stands game.rules numbered p a is stands pattern)

  pub pattern_valid : (i : Action) → IsActionAt game.rules p i → (shows_negative i ≡ true → IsTrue (not runs) ↔ Applies game p s s) × (shows_negative i ≡ false → IsTrue runs ↔ Applies game p s s)
  pattern_valid Negative (x, stands) = (
    (λ _. none_true runs (SomeWordRuns game s (beginning (inside p))) (Applies game p s s) decides ((answer_law game numbered p x s).1 stands)),
    (λ e. absurd (false_not_true (sym e))),
  )
  pattern_valid Positive (x, stands) =
      let law = (answer_law game numbered p x s).0 stands in
      ((λ e. absurd (false_not_true e)), (λ _. ((λ is. law.1 (decides.0 is)), (λ applies. decides.1 (law.0 applies)))))
  pattern_valid (Shift d) stands = plain (shift d) refl stands
  pattern_valid (On pieces) stands = plain _ refl stands
  pattern_valid (Off x) stands = plain (off x) refl stands
  pattern_valid (Assign v x) stands = plain _ refl stands
  pattern_valid (Compare x r y) stands = plain _ refl stands
  pattern_valid (Switch n) stands = plain (switch n) refl stands
