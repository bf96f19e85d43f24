-- The proofs of the walk.
use Rattle.rbg_base.proofs.Common.{rules, ◌<◌, List, [], length, ℕ, ◌+◌, ◌-◌, Bool, true, ap, subst, arith, IfOk-weaker}
use Rattle.rbg_rules.specs.declared.rule.Rule.{Rule}
use Rattle.rbg_rules.specs.declared.rule.Rule.TheVariants.{Star}
use Rattle.rbg_auto.specs.internal.Trees.{GivesFirsts, IsAgain}
use Rattle.rbg_auto.specs.internal.Tables.{Keeps, IsKept}
use Rattle.rbg_auto.specs.internal.Building.{LaysTree, LaysSequence, LaysLevel}
use Rattle.rbg_auto.proofs.BuildingLemmas.{IsKept-grows, lays_act, lays_pattern, SumSoFar, lays_then, lays_star_tree, lays_level_by, sequence_begins, sequence_owes_fewer, part_laid, sequence_laid, sum_goes_on, sum_ends}
use Rattle.rbg_auto.proofs.table_builder.TableBuilder.+laying.Goals as goal

pub lay-lay_at-requires-in-Pattern-clause-kept : goal.lay-lay_at-requires-in-Pattern-clause-kept
lay-lay_at-requires-in-Pattern-clause-kept t c =
    let level : LaysLevel c.args.self.now.table c.lay_level.new.self.table c.deref.result.now c.in_ok-inside-in-Pattern.inside = c.in_ok-inside-in-Pattern.ensures in
    IsKept-grows c.args.self.now.table.entries.items c.lay_level.new.self.table.entries.items c.args.kept.now c.args.rest.now.positions.items level.extends.entries c.requires

pub lay-returns-in-Act-clause-lays : goal.lay-returns-in-Act-clause-lays
lay-returns-in-Act-clause-lays t c = rw c.in-Act.is (IfOk-weaker c.lay_at.result _ _ (λ _ at. lays_act c.in-Act.position c.args.self.now.table c.lay_at.new.self.table c.args.rest.now at) c.lay_at.ensures.lays)

pub lay-returns-in_ok-inside-in-Pattern-clause-lays : goal.lay-returns-in_ok-inside-in-Pattern-clause-lays
lay-returns-in_ok-inside-in-Pattern-clause-lays t c =
    let level = subst (λ (r : Rule). LaysLevel c.args.self.now.table c.lay_level.new.self.table r c.in_ok-inside-in-Pattern.inside) c.deref.ensures c.in_ok-inside-in-Pattern.ensures in
    rw c.in-Pattern.is (IfOk-weaker c.lay_at-in-Pattern.result _ _
    (λ _ at. lays_pattern c.in-Pattern.position c.in-Pattern.inside c.args.self.now.table c.lay_level.new.self.table c.lay_at-in-Pattern.new.self.table c.args.rest.now c.in_ok-inside-in-Pattern.inside level at) c.lay_at-in-Pattern.ensures.lays)

pub lay-returns-in-Then-clause-lays : goal.lay-returns-in-Then-clause-lays
lay-returns-in-Then-clause-lays t c =
    rw c.in-Then.is (IfOk-weaker c.lay_sequence.result _ _
    (λ _ one. lays_then c.in-Then.parts _ _ _ _ (subst (λ (rs : List Rule). LaysSequence c.args.self.now.table c.lay_sequence.new.self.table rs c.args.rest.now.positions.items c.args.rest.now.may_end) c.as_slice.ensures.value one)) c.lay_sequence.ensures.lays)

pub lay-loop-part-preserved : goal.lay-loop-part-preserved
lay-loop-part-preserved t c =
    record {
      so_far = sum_goes_on c.args.self.now.table c.loop-part.self.table c.lay.new.self.table c.deref-part-items.result.now c.loop-part.part-index c.part-item.result c.args.rest.now.positions.items c.args.rest.now.may_end (omega arith) c.part-item.is c.loop-part.invariant.so_far c.in_ok-lay-in-Or.ensures.lays;
      kept = c.in_ok-lay-in-Or.ensures.kept;
    }

pub lay-returns-after-loop-part-clause-lays : goal.lay-returns-after-loop-part-clause-lays
lay-returns-after-loop-part-clause-lays t c =
    let so_far = subst (λ (rs : List Rule). SumSoFar c.args.self.now.table c.loop-part.self.table rs c.loop-part.part-index c.args.rest.now.positions.items c.args.rest.now.may_end) c.deref-part-items.ensures.value c.loop-part.invariant.so_far in
    rw c.in-Or.is (sum_ends c.args.self.now.table c.loop-part.self.table c.in-Or.parts c.loop-part.part-index c.args.rest.now.positions.items c.args.rest.now.may_end (omega (arith, ap length c.deref-part-items.ensures.value, c.loop-part-test.false)) so_far)

pub lay-returns-in_ok-again-in-Star-clause-lays : goal.lay-returns-in_ok-again-in-Star-clause-lays
lay-returns-in_ok-again-in-Star-clause-lays t c =
    let old = c.args.self.now.table in
    let new = c.lay-in-Star.new.self.table in
    let k = c.args.rest.now.positions.items in
    let end = c.args.rest.now.may_end in
    let part = c.in-Star.part in
    let m = c.in_ok-again-in-Star.again.positions.items in
    let again : IsAgain part.value k m = subst (λ (r : Rule). IsAgain r k m) c.deref-in-Star.ensures c.in_ok-again-in-Star.ensures.positions in
    rw c.in-Star.is (IfOk-weaker c.lay-in-Star.result (λ _. LaysTree old new c.deref-in-Star-2.result.now m c.in_ok-again-in-Star.again.may_end) (λ _. LaysTree old new (Star part) k end)
    (λ _ one. lays_star_tree part old new k m end again (subst (λ (e : Bool). LaysTree old new part.value m e) c.in_ok-again-in-Star.ensures.may_end (subst (λ (r : Rule). LaysTree old new r m c.in_ok-again-in-Star.again.may_end) c.deref-in-Star-2.ensures one))) c.lay-in-Star.ensures.lays)

pub lay-returns-in_ok-again-in-Star-clause-kept : goal.lay-returns-in_ok-again-in-Star-clause-kept
lay-returns-in_ok-again-in-Star-clause-kept t c =
    let old = c.args.self.now.table in
    let new = c.lay-in-Star.new.self.table in
    let k = c.args.rest.now.positions.items in
    let m = c.in_ok-again-in-Star.again.positions.items in
    let end = c.in_ok-again-in-Star.again.may_end in
    IfOk-weaker c.lay-in-Star.result (λ _. LaysTree old new c.deref-in-Star-2.result.now m end) (λ _. IsKept new.entries.items c.args.kept.now k)
    (λ _ one. let lays : LaysTree old new c.deref-in-Star-2.result.now m end = one in IsKept-grows old.entries.items new.entries.items c.args.kept.now k lays.extends.entries c.requires) c.lay-in-Star.ensures.lays

pub lay_level-returns : goal.lay_level-returns
lay_level-returns t c =
    let first = c.push_first.new.first.items in
    let empty = c.in_ok-may_be_empty.may_be_empty in
    let rule = c.args.rule.now in
    let gives_at : GivesFirsts rule c.new-first.result.items first empty = c.in_ok-may_be_empty.ensures in
    let gives : GivesFirsts rule [] first empty = subst (λ (xs : List ℕ). GivesFirsts rule xs first empty) c.new-first.ensures.items gives_at in
    let keeps_at : Keeps c.intern.new.self.table.entries.items c.in_ok-first.first c.as_slice.result.now = c.in_ok-first.ensures.keeps in
    let keeps : Keeps c.intern.new.self.table.entries.items c.in_ok-first.first first = subst (Keeps c.intern.new.self.table.entries.items c.in_ok-first.first) c.as_slice.ensures.value keeps_at in
    let lays_at : LaysTree c.intern.new.self.table c.lay.new.self.table rule c.new.result.items true = c.in_ok-lay.ensures.lays in
    let lays : LaysTree c.intern.new.self.table c.lay.new.self.table rule [] true = subst (λ (xs : List ℕ). LaysTree c.intern.new.self.table c.lay.new.self.table rule xs true) c.new.ensures.items lays_at in
    lays_level_by c.args.self.now.table c.intern.new.self.table c.lay.new.self.table rule first c.in_ok-first.first empty gives c.in_ok-first.ensures.adds keeps lays

pub lay_sequence-loop-left-init : goal.lay_sequence-loop-left-init
lay_sequence-loop-left-init t c =
    let old = c.args.self.now.table in
    let new = c.lay_part.new.self.table in
    let parts = c.args.parts.now in
    let k = c.args.rest.now.positions.items in
    let end = c.args.rest.now.may_end in
    let i = length parts - 1 in
    let some : i < length parts = search rules in
    record {
      owes = sequence_owes_fewer old old new parts i c.index-parts-left.result k end k end c.in_ok-before.before.positions.items c.in_ok-before.before.may_end some c.index-parts-left.is (sequence_begins old parts (i + 1) k end (omega (arith, some))) c.in_ok-before.ensures.lays c.in_ok-before.ensures.before;
      kept = c.in_ok-before.ensures.kept;
      below = some;
    }

pub lay_sequence-loop-left-preserved : goal.lay_sequence-loop-left-preserved
lay_sequence-loop-left-preserved t c =
    let some : 0 < c.loop-left.left = c.loop-left-test.true in
    let was : c.loop-left.left < length c.args.parts.now = c.loop-left.invariant.below in
    let here : c.loop-left.left - 1 < length c.args.parts.now = omega (arith, was) in
    let lays : LaysTree c.loop-left.self.table c.lay_part-in-loop-left.new.self.table c.index-parts-left-in-loop-left.result c.loop-left.before.positions.items c.loop-left.before.may_end = c.in_ok-before-2.ensures.lays in
    record {
      owes = part_laid some here c.index-parts-left-in-loop-left.is c.loop-left.invariant.owes lays c.in_ok-before-2.ensures.before;
      kept = IsKept-grows c.loop-left.self.table.entries.items c.lay_part-in-loop-left.new.self.table.entries.items c.lay_part.new.kept c.args.rest.now.positions.items lays.extends.entries c.loop-left.invariant.kept;
      below = here;
    }

pub lay_sequence-returns-clause-lays : goal.lay_sequence-returns-clause-lays
lay_sequence-returns-clause-lays t c =
    let test = c.loop-left-test.false in
    sequence_laid (omega (arith, test)) c.loop-left.invariant.owes
