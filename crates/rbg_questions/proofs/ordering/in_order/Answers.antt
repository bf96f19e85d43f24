-- The moves that are lent are sorted.
use Rattle.std.proofs.Common.{map, subst, List, ℕ}
use Rattle.std.specs.List.Sorted.{IsPermutation}
use Rattle.std.specs.Ordering.{is_lt}
use Rattle.std.proofs.lemmas.List.Sorted.{IsPermutation-map}
use Rattle.rbg_moves.proofs.Order.{in_order, move_cmp, still_different}
use Rattle.rbg_questions.proofs.Sorted.{sorted_shown}
use Rattle.rbg_questions.proofs.ordering.in_order.Goals as goal

pub returns : goal.returns
returns c =
    let listed : List (List (ℕ × ℕ)) = map (λ m. m.now) c.sort_unstable.new.self.items in
    let moved : IsPermutation c.args.moves.now listed = subst (λ (ms : List (List (ℕ × ℕ))). IsPermutation ms listed) c.in_ok-lent.ensures (IsPermutation-map (λ m. m.now) _ _ c.sort_unstable.ensures.permutation) in
    record {
      permutation = moved;
      order = in_order listed (sorted_shown (λ m. m.now) (λ x y. is_lt (move_cmp x y)) c.sort_unstable.new.self.items c.sort_unstable.ensures.sorted) (still_different c.args.moves.now listed moved c.requires);
    }
