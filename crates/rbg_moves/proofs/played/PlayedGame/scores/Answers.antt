use Rattle.std.proofs.Common.{◌≡◌, ◌+◌, ◌-◌, ◌<◌, ◌^◌, [], ◌∷◌, ◌++◌, ℕ, List, sym, ap, subst, ◌∙◌, arith, Some, slice_get}
use Rattle.rbg_moves.proofs.Scoring.{HasScored, scored_more}
use Rattle.rbg_moves.proofs.played.PlayedGame.scores.Goals as goal

pub loop-index-preserved : goal.loop-index-preserved
loop-index-preserved c =
    let values : List ℕ = c.args.place.now.state.values in
    let items : c.push.new.self.items ≡ c.loop-index.scores.items ++ c.from.result ∷ [] = search Rattle.std.proofs.Common.rules in
    let found : slice_get values (c.loop-index.index + 1 - 1) ≡ Some c.from.result = search Rattle.std.proofs.Common.rules in
    let small : c.from.result < 2 ^ 64 = search Rattle.std.proofs.Common.rules in
    subst (λ (xs : List ℕ). HasScored values (c.loop-index.index + 1) xs) (sym items) (scored_more values c.loop-index.index c.loop-index.scores.items c.from.result c.loop-index.invariant found small)
