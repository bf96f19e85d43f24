use Rattle.std.proofs.Common.{◌≡◌, ◌+◌, map, take, length, arith, slice_set}
use Rattle.std.proofs.lemmas.List.{take_more_set, length-set}
use Rattle.rbg_grammar.specs.Views.{name_of}
use Rattle.rbg_base.proofs.CallerLemmas.{map-take_more}
use Rattle.rbg_game.specs.internal.Boards.{NumbersDirections}
use Rattle.rbg_game.proofs.Joining.{one_more_numbered}
use Rattle.rbg_game.proofs.checking.directions.number_directions.Goals as goal

pub loop-place-preserved : goal.loop-place-preserved
loop-place-preserved c =
    let names = c.args.names.now in
    let place = c.loop-place.place in
    let name = c.index-names-place.result in
    let numbers = c.loop-place.numbers in
    let n = c.in_ok-numbers.field-0 in
    let long : length numbers ≡ length names = c.loop-place.invariant.1 in
    let more : NumbersDirections (map name_of (take (place + 1) names)) (take (place + 1) (slice_set numbers place n)) c.join.new.table =
    rw (map-take_more name_of names place name c.loop-place-test.true c.index-names-place.is, take_more_set numbers place n (omega (arith, long, c.loop-place-test.true)))
    (one_more_numbered (map name_of (take place names)) (take place numbers) c.loop-place.table c.join.new.table (name_of name) n c.loop-place.invariant.0 c.in_ok-numbers.ensures.number) in
    (more, omega (arith, long, length-set numbers place n))
