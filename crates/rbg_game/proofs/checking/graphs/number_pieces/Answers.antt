use Rattle.rbg_base.proofs.Common.{◌++◌, ◌∷◌, [], List, map, take, subst, sym, AllZip}
use Rattle.rbg_base.proofs.CallerLemmas.{AllZip-push_one, Contains-map}
use Rattle.rbg_grammar.proofs.Common.{SpeltName, SpeltVertex, graph, name_of, vertex_of}
use Rattle.rbg_game.specs.declared.game_error.GameError.TheVariants.{Memory}
use Rattle.rbg_game.proofs.NumberingCommon.{IsNumberOf, HasLookUpFault, no_memory}
use Rattle.rbg_game.proofs.Lists.{Contains-map_read}
use Rattle.rbg_game.proofs.LookUps.{look_up_one}
use Rattle.rbg_base.proofs.Errors.{passed_on}
use Rattle.rbg_game.specs.Faults.{board_pieces}
use Rattle.rbg_game.proofs.GraphSteps.{pieces_more}
use Rattle.rbg_game.proofs.checking.graphs.number_pieces.Goals as goal

pub returns-in_err-numbers-clause-fault : goal.returns-in_err-numbers-clause-fault
returns-in_err-numbers-clause-fault c =
    passed_on c.from_residual.result Memory (HasLookUpFault c.args.pieces.now (board_pieces (graph (map vertex_of c.args.vertices.now)))) c.from_residual.ensures.1 no_memory

pub returns-in_err-find-clause-fault : goal.returns-in_err-find-clause-fault
returns-in_err-find-clause-fault c =
    let pieces = c.args.pieces.now in
    let vertices = c.args.vertices.now in
    let vertex = c.vertex-item.result in
    let whole : List SpeltName = board_pieces (graph (map vertex_of vertices)) in
    let error = c.in_err-find.field-0.0 in
    let stands = Contains-map (λ (v : SpeltVertex). v.piece) (map vertex_of vertices) (vertex_of vertex) (Contains-map_read vertex_of vertices c.loop-vertex.vertex-index vertex c.loop-vertex-test.true c.vertex-item.is) in
    passed_on c.from_residual-in_err-find.result error (HasLookUpFault pieces whole) c.from_residual-in_err-find.ensures.1
    (look_up_one pieces (name_of vertex.piece) whole error stands c.in_err-find.ensures.fault)

pub returns-in_err-push-clause-fault : goal.returns-in_err-push-clause-fault
returns-in_err-push-clause-fault c =
    passed_on c.from_residual-in_err-push.result Memory (HasLookUpFault c.args.pieces.now (board_pieces (graph (map vertex_of c.args.vertices.now)))) c.from_residual-in_err-push.ensures.1 no_memory

pub loop-vertex-preserved : goal.loop-vertex-preserved
loop-vertex-preserved c =
    let pieces = c.args.pieces.now in
    let vertices = c.args.vertices.now in
    let i = c.loop-vertex.vertex-index in
    let vertex = c.vertex-item.result in
    let n = c.in_ok-find.field-0 in
    let numbers = c.loop-vertex.numbers.items in
    let P : List SpeltName → Type 0 = λ names. AllZip (IsNumberOf pieces) names (numbers ++ n ∷ []) in
    let all = AllZip-push_one (IsNumberOf pieces) (board_pieces (graph (map vertex_of (take i vertices)))) numbers (name_of vertex.piece) n c.loop-vertex.invariant c.in_ok-find.ensures.number in
    rw c.in_ok-push.ensures.items (subst P (sym (pieces_more vertices i vertex c.loop-vertex-test.true c.vertex-item.is)) all)
