-- The index gains one name at a time, and a name that it has already is written twice.
use Rattle.std.proofs.Common.{◌≡◌, ◌<◌, None, length, get_or, nat_eq, sym, ap, ◌∙◌, arith}
use Rattle.std.specs.HashMap as hash
use Rattle.std.proofs.lemmas.Bool.{ne_eqb}
use Rattle.rbg_board.proofs.Common.{names_of, GraphRefusal, written_of}
use Rattle.rbg_board.proofs.CellReads.{name_read, length-names}
use Rattle.rbg_board.proofs.Indexing.{value_of_some, none_of_not_some, twice, index_more, index_all, index_differ}
use Rattle.rbg_board.proofs.graphs.index_names.Goals as goal

pub returns-then-is_some-clause-refusal : goal.returns-then-is_some-clause-refusal
unfolding GraphRefusal
returns-then-is_some-clause-refusal c =
    let names = names_of (written_of c.args.cells.now) in
    let index = hash.get nat_eq c.loop-vertex.index in
    let v = c.loop-vertex.vertex in
    let name = name_read c.args.cells.now v c.index-cells-vertex.result c.loop-vertex-test.true c.index-cells-vertex.is in
    let found = value_of_some c.in_ok-insert.field-0 c.if-is_some.ensures in
    let within : v < length names = omega (arith, length-names c.args.cells.now) in
    (c.requires, twice names index v found.0 c.loop-vertex.invariant within (ap index name ∙ sym c.in_ok-insert.ensures.old ∙ found.1))

pub loop-vertex-preserved : goal.loop-vertex-preserved
loop-vertex-preserved c =
    let names = names_of (written_of c.args.cells.now) in
    let old = hash.get nat_eq c.loop-vertex.index in
    let new = hash.get nat_eq c.insert.new.self in
    let v = c.loop-vertex.vertex in
    let name = name_read c.args.cells.now v c.index-cells-vertex.result c.loop-vertex-test.true c.index-cells-vertex.is in
    let absent : old (get_or names v 0) ≡ None = ap old name ∙ sym c.in_ok-insert.ensures.old ∙ none_of_not_some c.in_ok-insert.field-0 c.if-is_some.ensures in
    let updates = c.in_ok-insert.ensures.updates in
    index_more names old new v c.loop-vertex.invariant absent (ap new name ∙ updates.1) (λ q apart. updates.2 q (ne_eqb c.index-cells-vertex.result.name q (λ same. apart (name ∙ same))))

pub returns-clause-index : goal.returns-clause-index
returns-clause-index c = index_all (names_of (written_of c.args.cells.now)) (hash.get nat_eq c.loop-vertex.index) c.loop-vertex.vertex c.loop-vertex.invariant (omega (arith, length-names c.args.cells.now))

pub returns-clause-differ : goal.returns-clause-differ
returns-clause-differ c =
    let names = names_of (written_of c.args.cells.now) in
    index_differ names (hash.get nat_eq c.loop-vertex.index) (index_all names (hash.get nat_eq c.loop-vertex.index) c.loop-vertex.vertex c.loop-vertex.invariant (omega (arith, length-names c.args.cells.now)))
