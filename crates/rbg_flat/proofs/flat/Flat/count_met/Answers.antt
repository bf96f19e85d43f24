use Rattle.std.proofs.Common.{ℕ, List, refl, subst}
use Rattle.rbg_flat.proofs.Common.{HasBitAt}
use Rattle.rbg_flat.proofs.Leaping.{same_size}
use Rattle.rbg_flat.proofs.Countings.{counted_none, counted_more, counted_all, counted_fits, few_met}
use Rattle.rbg_flat.proofs.flat.Flat.count_met.Goals as goal

pub loop-place-init : goal.loop-place-init
loop-place-init c =
    let first = c.args.self.now.sets in
    let now = c.close_all.new.self in
    record {
      sized = same_size c.args.game.now first now c.close_all.ensures.size c.close_all.ensures.columns c.requires.sized;
      ends = refl;
      closed = c.close_all.ensures.closed;
      counted = counted_none first now c.close_all.ensures.columns c.close_all.ensures.marks;
    }

-- A row has few vertices.
pub overflow_add-many : goal.overflow_add-many
overflow_add-many c =
    let first = c.args.self.now.sets in
    let fits = counted_fits c.args.game.now first c.requires.on c.requires.lawful c.loop-place.self.sets c.loop-place.many c.count_place-many.result c.loop-place.invariant.counted c.count_place-many.ensures.few in
    record { fits = fits }

pub loop-place-preserved : goal.loop-place-preserved
loop-place-preserved c =
    let is = c.loop-place.invariant in
    let row = c.count_place-many.ensures in
    record {
      sized = same_size c.args.game.now c.loop-place.self.sets c.forget.new.self c.forget.ensures.size c.forget.ensures.columns is.sized;
      ends = is.ends;
      closed = λ v p has. is.closed v p (subst (λ (k : ℕ). HasBitAt k c.loop-place.self.sets.pending v p) c.forget.ensures.columns (subst (λ (words : List ℕ). HasBitAt c.forget.new.self.columns words v p) c.forget.ensures.pending has));
      counted = counted_more c.args.self.now.sets c.loop-place.self.sets c.forget.new.self c.in-Some.place c.position_at-position.result c.loop-place.many c.count_place-many.result c.position_at-position.ensures.is is.counted row.vertices row.lists row.count c.forget.ensures.forgets;
    }

pub returns-clause-few : goal.returns-clause-few
returns-clause-few c =
    let first = c.args.self.now.sets in
    few_met c.args.game.now first c.requires.on c.loop-place.many (counted_all first c.loop-place.self.sets c.loop-place.many c.in_default.ensures.none c.loop-place.invariant.counted)
