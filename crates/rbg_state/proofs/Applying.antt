-- An action is applied in one way.
use Rattle.rbg_base.proofs.Common.{◌≡◌, ℕ, ◌+◌, ◌<◌, ◌≤◌, ◌⊎◌, false, inl, inr, subst, sym, refl, arith, false_from_ne_true}
use Rattle.rbg_rules.specs.Meaning.{AbstractAction, shift, on, off, assignment, comparison, switch, Expression, HasAction, IsPatternAt, AbstractGame, AbstractState, IsStateOf, Applies, IsGame, arithmetic_of, shows_pattern, Shows, IsActionAt}
use Rattle.rbg_rules.specs.declared.rule.Action.{Action}
use Rattle.rbg_rules.specs.declared.rule.Action.TheVariants.{Shift, On, Off, Assign, Compare, Switch, Positive, Negative}
use Rattle.rbg_rules.proofs.MoveLemmas.{applied_acts, Applies_one}
use Rattle.rbg_rules.proofs.StateLemmas.{state_law}
use Rattle.rbg_rules.proofs.TableLemmas.{pattern_stands}
use Rattle.rbg_state.specs.Answer.{Answers}
use Rattle.rbg_state.specs.History.{History, capacity_of, changed_to, IsAfter}
use Rattle.rbg_state.proofs.Histories.{after_nothing, after_change, capacity_after_change}
use Rattle.rbg_state.specs.declared.state.actions.Applied.{Applied}
use Rattle.rbg_state.specs.declared.state.actions.Applied.TheVariants.{Valid, Invalid}

-- the abstract action that an action of the program means, if it is no pattern
pub record ShownAction (rules : Expression) (p : ℕ) (i : Action) : Type 0 where
  pub action : AbstractAction
  pub stands : HasAction rules p action
  pub shown : Shows action i

pub shown_action : (rules : Expression) (p : ℕ) (i : Action) → shows_pattern i ≡ false → IsActionAt rules p i → ShownAction rules p i
shown_action rules p (Shift d) plain stands = record { action = shift d; stands = stands; shown = refl }
shown_action rules p (On pieces) plain stands = record { action = on pieces.items; stands = stands; shown = refl }
shown_action rules p (Off x) plain stands = record { action = off x; stands = stands; shown = refl }
shown_action rules p (Assign v e) plain stands = record { action = assignment v (arithmetic_of e); stands = stands; shown = refl }
shown_action rules p (Compare e r f) plain stands = record { action = comparison (arithmetic_of e) r (arithmetic_of f); stands = stands; shown = refl }
shown_action rules p (Switch n) plain stands = record { action = switch n; stands = stands; shown = refl }
shown_action rules p Positive plain stands = cc
shown_action rules p Negative plain stands = cc

-- What at most one change leaves of a history.
pub record IsStep (h k : History) : Type 0 where
  pub after : IsAfter h k
  pub capacity : capacity_of k ≡ capacity_of h
  pub room : h.room ≤ k.room + 1

nothing_written : (h k : History) → k ≡ h → IsStep h k
nothing_written h k same = rw same (record { after = after_nothing h; capacity = refl; room = omega arith })

change_written : (h k : History) → 0 < h.room → k ≡ changed_to h k.state → IsStep h k
change_written h k room is = rw is (record { after = after_change h k.state; capacity = capacity_after_change h k.state room; room = omega arith })

step_of : (h k : History) → 0 < h.room → (k ≡ h) ⊎ (k ≡ changed_to h k.state) → IsStep h k
step_of h k room (inl same) = nothing_written h k same
step_of h k room (inr is) = change_written h k room is

-- What an answer means for the position, from what it means for the action at that position.
pub record IsAnswered (game : AbstractGame) (p : ℕ) (h k : History) (answer : Applied) : Type 0 where
  pub valid : answer ≡ Valid → Applies game p h.state k.state
  pub only : (u : AbstractState) → Applies game p h.state u → u ≡ k.state
  pub invalid : answer ≡ Invalid → (u : AbstractState) → ¬ Applies game p h.state u
  pub unchanged : answer ≡ Invalid → k ≡ h
  pub fits : IsStateOf game k.state
  pub step : IsStep h k

module _ (game : AbstractGame) (lawful : IsGame game) (p : ℕ) (i : Action) (stands : IsActionAt game.rules p i) (no_pattern : ¬ IsPatternAt game.rules p) (h k : History) (room : 0 < h.room) where
  answered_by : (answer : Applied) → ShownAction game.rules p i → IsStateOf game h.state → ((a : AbstractAction) → Shows a i → Answers game a h k answer) → IsAnswered game p h k answer
  answered_by Valid here fits answers =
      let (acts, written) = answers here.action here.shown in
      let applies : Applies game p h.state k.state = record { action = here.action; stands = here.stands; acts = acts } in
      record {
        valid = λ is. applies;
        only = λ u other. Applies_one game lawful.numbered p other applies;
        invalid = λ is. cc;
        unchanged = λ is. cc;
        fits = (state_law game lawful).1 p h.state k.state fits applies;
        step = step_of h k room written;
      }
  answered_by Invalid here fits answers =
      let (none, same) = answers here.action here.shown in
      let nowhere : (u : AbstractState) → ¬ Applies game p h.state u = λ u applies. none u (applied_acts game lawful.numbered p here.action here.stands applies) in
      record {
        valid = λ is. cc;
        only = λ u other. absurd (nowhere u other);
        invalid = λ is. nowhere;
        unchanged = λ is. same;
        fits = subst (λ (x : History). IsStateOf game x.state) (sym same) fits;
        step = nothing_written h k same;
      }

  pub answered : (answer : Applied) → IsStateOf game h.state → ((a : AbstractAction) → Shows a i → Answers game a h k answer) → IsAnswered game p h k answer
  answered answer fits answers =
      let plain = false_from_ne_true (shows_pattern i) (λ yes. no_pattern ((pattern_stands game.rules lawful.numbered p i stands).0 yes)) in
      answered_by answer (shown_action game.rules p i plain stands) fits answers
