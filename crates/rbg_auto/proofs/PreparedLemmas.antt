-- What is prepared of an automaton's nodes is right to lend.
use Rattle.std.proofs.Common.{◌≡◌, ℕ, zero, suc, ◌+◌, ◌-◌, ◌<◌, ◌≤◌, List, [], ◌∷◌, length, map, get_or, refl, sym, ap, subst, Bool, true, false, IsTrue, ◌↔◌, arith, ◌≢◌, if◌then◌else◌, slice_range, Vec, Some, Global}
use Rattle.rbg_rules.specs.Meaning.{Expression, after, Ends}
use Rattle.rbg_auto.specs.declared.span.Node.{Node}
use Rattle.rbg_auto.specs.declared.arrays.Compact.{Compact}
use Rattle.rbg_auto.specs.declared.lent_steps.Step.{Step}
use Rattle.rbg_auto.specs.declared.steps.Glance.{Glance}
use Rattle.rbg_auto.specs.declared.steps.Glance.TheVariants.{Unknown}
use Rattle.rbg_auto.specs.Steps.{AreNext, IsGlance}
use Rattle.rbg_auto.specs.LentSteps.{step_at, list_of}
use Rattle.rbg_auto.specs.internal.Tables.{listed, no_node, IsNextWithin}
use Rattle.rbg_auto.specs.internal.Compacts.{IsCompactOf, MayBeLent}
use Rattle.rbg_auto.specs.internal.Prepared.{step_of_node}
use Rattle.rbg_auto.proofs.BuildingLemmas.{next_within}

-- The step at a position is that of the node there.
step_of_each : (nodes : List Node) (p : ℕ) → step_at (map step_of_node nodes) p ≡ step_of_node (get_or nodes p no_node)
step_of_each [] p = refl
step_of_each (node ∷ later) zero = refl
step_of_each (node ∷ later) (suc p) = step_of_each later p

length-steps : (nodes : List Node) → length (map step_of_node nodes) ≡ length nodes
length-steps [] = refl
length-steps (node ∷ later) = ap suc (length-steps later)

-- The step is right for the position.
record IsRightStep (rules : Expression) (entries : List ℕ) (p : ℕ) (step : Step) : Type 0 where
  within : step.start + step.len ≤ length entries
  next : AreNext rules p (list_of entries step)
  told : IsGlance rules p step.glance
  quiet : step.glance ≢ Unknown → ¬ Ends rules (after p) []

still_told : (rules : Expression) (p : ℕ) (end : Bool) (glance : Glance) → IsGlance rules p glance → IsGlance rules p (if end then Unknown else glance)
still_told rules p true glance is = tt
still_told rules p false glance is = is

quiet_at_ends : (rules : Expression) (p : ℕ) (end : Bool) (glance : Glance) → (IsTrue end ↔ Ends rules (after p) []) → (if end then Unknown else glance) ≢ Unknown → ¬ Ends rules (after p) []
quiet_at_ends rules p true glance is told ends = absurd (told refl)
quiet_at_ends rules p false glance is told ends = absurd (cc (is.1 ends))

right_step : (rules : Expression) (entries : List ℕ) (p : ℕ) (node : Node) → IsNextWithin (length entries) node → AreNext rules p (listed entries node.next) → (IsTrue node.may_end ↔ Ends rules (after p) []) → IsGlance rules p node.glance → IsRightStep rules entries p (step_of_node node)
right_step rules entries p node within next ends told =
    let end : node.next.start + (node.next.end - node.next.start) ≡ node.next.end = omega (arith, within.starts) in
    record {
      within = omega (arith, within.starts, within.ends);
      next = subst (λ (n : ℕ). AreNext rules p (slice_range entries node.next.start n)) (sym end) next;
      told = still_told rules p node.may_end node.glance told;
      quiet = quiet_at_ends rules p node.may_end node.glance ends;
    }

-- The steps of the automaton's nodes are right to lend.
steps_may_be_lent : (c : Compact) (rules : Expression) → IsCompactOf c rules → MayBeLent rules (map step_of_node c.table.nodes.items) c.table.entries.items
steps_may_be_lent c rules is = record {
  right = λ lent steps entries.
      let each : (p : ℕ) → IsRightStep rules lent.entries.now p (step_at lent.steps.now p) = λ p.
      subst (λ (es : List ℕ). IsRightStep rules es p (step_at lent.steps.now p)) (sym entries)
      (subst (λ (ss : List Step). IsRightStep rules c.table.entries.items p (step_at ss p)) (sym steps) (right p)) in
      record {
        has = λ p below. record {
          there = subst (λ (ss : List Step). p < length ss) (sym steps) (omega (arith, below, is.has, length-steps c.table.nodes.items));
          within = (each p).within;
        };
        next = λ p. (each p).next;
        told = λ p. (each p).told;
        quiet = λ p. (each p).quiet;
      };
}
  where
    right : (p : ℕ) → IsRightStep rules c.table.entries.items p (step_at (map step_of_node c.table.nodes.items) p)
    right p = subst (IsRightStep rules c.table.entries.items p) (sym (step_of_each c.table.nodes.items p))
        (right_step rules c.table.entries.items p (get_or c.table.nodes.items p no_node) (next_within c.table p) (is.steps.next_of p) (is.steps.ends p) (is.told p))

-- So is a vector that was made of them.
pub prepared_lends : (c : Compact) (rules : Expression) → IsCompactOf c rules → (made steps : Vec Step Global) → made.items ≡ map step_of_node c.table.nodes.items → Some made ≡ Some steps → MayBeLent rules steps.items c.table.entries.items
prepared_lends c rules is made steps each some =
    let same : made ≡ steps = cc some in
    subst (λ (v : Vec Step Global). MayBeLent rules v.items c.table.entries.items) same
    (subst (λ (ss : List Step). MayBeLent rules ss c.table.entries.items) (sym each) (steps_may_be_lent c rules is))
