use Rattle.std.proofs.Common.{ℕ, ◌+◌, List, refl, sym, subst}
use Rattle.rbg_flat.proofs.Common.{Gathered, HasBitAt, way_of}
use Rattle.rbg_flat.proofs.Leaping.{same_size}
use Rattle.rbg_flat.proofs.Countings.{few_met, both_fit}
use Rattle.rbg_flat.proofs.Finishings.{gathered_none, gathered_more, count_fits, are_found, has_pairs, few_gathered, rest_counted, all_pairs}
use Rattle.rbg_flat.proofs.flat.Flat.finish.Goals as goal

pub loop-place-init : goal.loop-place-init
loop-place-init c =
    let sets = c.args.self.now.sets in
    record {
      sized = c.requires.sized;
      ends = refl;
      closed = c.requires.done;
      gathered = subst (λ (found : List (ℕ × ℕ)). Gathered c.args.game.now c.args.state.now.state sets sets found 0) (sym c.clear.ensures) (gathered_none c.args.game.now c.requires.lawful c.args.state.now.state sets c.requires.on);
    }

pub overflow_add-many : goal.overflow_add-many
overflow_add-many c =
    let fits = count_fits c.args.game.now c.requires.lawful c.args.state.now.state c.args.self.now.sets c.requires.on c.loop-place.self.sets c.loop-place.found c.loop-place.many c.in-Ok.here c.loop-place.invariant.gathered c.in-Ok.ensures.few in
    record { fits = fits }

pub loop-place-preserved : goal.loop-place-preserved
loop-place-preserved c =
    let is = c.loop-place.invariant in
    record {
      sized = same_size c.args.game.now c.loop-place.self.sets c.forget.new.self c.forget.ensures.size c.forget.ensures.columns is.sized;
      ends = is.ends;
      closed = λ v p has. is.closed v p (subst (λ (k : ℕ). HasBitAt k c.loop-place.self.sets.pending v p) c.forget.ensures.columns (subst (λ (words : List ℕ). HasBitAt c.forget.new.self.columns words v p) c.forget.ensures.pending has));
      gathered = gathered_more c.args.game.now c.requires.lawful c.args.state.now.state c.args.self.now.sets c.requires.on
          c.loop-place.self.sets c.forget.new.self c.loop-place.found c.gather_place.new.found c.loop-place.many c.in-Ok.here _ c.in-Some.place c.position_at-position.result c.keeps-keeps.result
          c.position_at-position.ensures.is is.gathered c.in-Ok.ensures c.forget.ensures.forgets (λ _. c.keeps-keeps.ensures);
    }

pub returns-clause-found : goal.returns-clause-found
returns-clause-found c = λ f is.
    are_found c.args.game.now c.requires.lawful c.args.state.now.state c.args.self.now.sets c.requires.on (way_of c.args.paths.now) f c.args.self.now.ends c.loop-place.self.sets c.loop-place.found c.loop-place.many is c.requires.done c.in_default.ensures.none c.loop-place.invariant.gathered

pub returns-clause-count : goal.returns-clause-count
returns-clause-count c = λ f is.
    has_pairs c.args.game.now c.requires.lawful c.args.state.now.state c.args.self.now.sets c.requires.on (way_of c.args.paths.now) f c.args.self.now.ends c.loop-place.self.sets c.loop-place.found c.loop-place.many is c.requires.done c.in_default.ensures.none c.loop-place.invariant.gathered

pub returns-clause-few : goal.returns-clause-few
returns-clause-few c = few_gathered c.args.game.now c.requires.lawful c.args.state.now.state c.args.self.now.sets c.requires.on c.loop-place.self.sets c.loop-place.found c.loop-place.many c.loop-place.invariant.gathered

-- There was no memory for the rest: it is counted alone.
pub overflow_add-result : goal.overflow_add-result
overflow_add-result c =
    let game = c.args.game.now in
    let first = c.args.self.now.sets in
    let all = rest_counted game c.args.state.now.state first c.loop-place.self.sets c.loop-place.found c.loop-place.many c.count_met-rest.result c.loop-place.invariant.gathered c.count_met-rest.ensures.count in
    let fits = both_fit game first c.requires.on c.requires.lawful (c.loop-place.many + c.count_met-rest.result) all in
    record { fits = fits }

pub returns-in_default-gather_place-clause-count_lost : goal.returns-in_default-gather_place-clause-count_lost
returns-in_default-gather_place-clause-count_lost c = λ f is.
    let game = c.args.game.now in
    let first = c.args.self.now.sets in
    let all = rest_counted game c.args.state.now.state first c.loop-place.self.sets c.loop-place.found c.loop-place.many c.count_met-rest.result c.loop-place.invariant.gathered c.count_met-rest.ensures.count in
    all_pairs (way_of c.args.paths.now) game c.requires.lawful c.args.state.now.state first f c.args.self.now.ends is c.requires.done (c.loop-place.many + c.count_met-rest.result) all

pub returns-in_default-gather_place-clause-few_lost : goal.returns-in_default-gather_place-clause-few_lost
returns-in_default-gather_place-clause-few_lost c =
    let game = c.args.game.now in
    let first = c.args.self.now.sets in
    let all = rest_counted game c.args.state.now.state first c.loop-place.self.sets c.loop-place.found c.loop-place.many c.count_met-rest.result c.loop-place.invariant.gathered c.count_met-rest.ensures.count in
    few_met game first c.requires.on (c.loop-place.many + c.count_met-rest.result) all
