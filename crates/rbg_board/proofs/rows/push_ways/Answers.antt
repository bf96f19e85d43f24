-- The table grows by one direction at a time.
use Rattle.rbg_base.proofs.Common.{ℕ, [], ◌∷◌, map, append_assoc, arith, range_with_len}
use Rattle.std.proofs.lemmas.List.FromFn.{map-range_with_len_more}
use Rattle.rbg_board.proofs.rows.push_ways.Goals as goal

pub loop-direction-preserved : goal.loop-direction-preserved
loop-direction-preserved g c =
    let leads = λ (d : ℕ). g.S.Shape.leads c.args.shape.now c.args.site.now d in
    let direction = c.loop-direction.direction in
    let more = map-range_with_len_more leads 0 direction direction (omega arith) in
    let assoc = append_assoc c.args.table.now.items (map leads (range_with_len 0 direction)) (leads direction ∷ []) in
    let pushed = c.in_ok-push.ensures.items in
    cc
