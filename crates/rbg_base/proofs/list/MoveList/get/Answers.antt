use Rattle.std.proofs.Common.{◌≡◌, ◌<◌, ℕ, List, length, Some, ap, ◌∙◌, sym, subst, arith, slice_get}
use Rattle.rbg_base.specs.List.{IsSpan, lists_at}
use Rattle.rbg_base.specs.Move.{IsMoveLength}
use Rattle.rbg_base.proofs.Lists.{lists_count, span_at, list_at, length_at}
use Rattle.rbg_base.proofs.list.MoveList.get.Goals as goal

pub index-span-requires : goal.index-span-requires
index-span-requires c =
    let count = lists_count c.self.inside.pairs.items c.self.inside.spans.items in
    let same = ap (λ (ls : List (List (ℕ × ℕ))). length ls) c.self.view_is in
    omega (arith, count, same, c.requires, c.self.inside.spans.ok.0)

pub part-requires : goal.part-requires
part-requires c =
    let spans = c.self.inside.spans.items in
    let count = lists_count c.self.inside.pairs.items spans in
    let same = ap (λ (ls : List (List (ℕ × ℕ))). length ls) c.self.view_is in
    let under : c.args.index < length spans = omega (arith, count, same, c.requires) in
    let is = span_at (length c.self.inside.pairs.items) spans c.args.index c.index-span.result.now c.self.invariant under c.index-span.ensures in
    subst (λ (xs : List (ℕ × ℕ)). IsSpan (length xs) c.index-span.result.now) (sym c.deref.ensures.value) is

pub returns-clause-pairs : goal.returns-clause-pairs
returns-clause-pairs c =
    let xs = c.self.inside.pairs.items in
    let spans = c.self.inside.spans.items in
    let count = lists_count xs spans in
    let same = ap (λ (ls : List (List (ℕ × ℕ))). length ls) c.self.view_is in
    let under : c.args.index < length spans = omega (arith, count, same, c.requires) in
    let here = list_at c.deref.result.now spans c.args.index c.index-span.result.now under c.index-span.ensures ∙ ap (λ (l : List (ℕ × ℕ)). Some l) (sym c.part.ensures) in
    subst (λ (ls : List (List (ℕ × ℕ))). slice_get ls c.args.index ≡ Some c.part.result.now) c.self.view_is
    (subst (λ (ys : List (ℕ × ℕ)). slice_get (lists_at ys spans) c.args.index ≡ Some c.part.result.now) c.deref.ensures.value here)

pub returns-clause-range : goal.returns-clause-range
returns-clause-range c =
    let spans = c.self.inside.spans.items in
    let count = lists_count c.self.inside.pairs.items spans in
    let same = ap (λ (ls : List (List (ℕ × ℕ))). length ls) c.self.view_is in
    let under : c.args.index < length spans = omega (arith, count, same, c.requires) in
    let is = span_at (length c.self.inside.pairs.items) spans c.args.index c.index-span.result.now c.self.invariant under c.index-span.ensures in
    let there = subst (λ (xs : List (ℕ × ℕ)). IsSpan (length xs) c.index-span.result.now) (sym c.deref.ensures.value) is in
    subst (λ (l : List (ℕ × ℕ)). IsMoveLength (length l)) (sym c.part.ensures) (length_at c.deref.result.now c.index-span.result.now there)
