use Rattle.rbg_base.proofs.Common.{◌≡◌, ℕ, ◌+◌, ◌*◌, ◌<◌, List, length, subst, ◌↔◌, bit_at}
use Rattle.std.proofs.lemmas.List.{take_all}
use Rattle.rbg_flat.specs.internal.Passing.{IsOneOf}
use Rattle.rbg_flat.proofs.Passings.{one_of_more}
use Rattle.rbg_flat.proofs.passing.any_standing.Goals as goal

pub loop-piece-preserved : goal.loop-piece-preserved
loop-piece-preserved c = λ b small.
    let below : c.loop-piece.piece-index < length c.args.pieces.now = c.loop-piece-test.true in
    one_of_more c.args.pieces.now c.args.state.now.state.pieces c.loop-piece.piece-index (c.args.column * 64 + b) c.loop-piece.word c.standing-word.result b below (c.loop-piece.invariant b small) (c.standing-word.ensures b small)

pub returns : goal.returns
returns c = λ b small. subst (λ (xs : List ℕ). (bit_at c.loop-piece.word b ≡ 1) ↔ IsOneOf xs c.args.state.now.state.pieces (c.args.column * 64 + b)) (take_all c.loop-piece.piece-index c.args.pieces.now c.loop-piece-test.false) (c.loop-piece.invariant b small)
