use Rattle.std.proofs.Common.{◌≡◌, ◌+◌, true, false, refl, arith}
use Rattle.rbg_grammar.specs.Sections.{same_kind}
use Rattle.rbg_syntax.proofs.SectionLists.{tested, count_of-take_one, count_of-take}
use Rattle.rbg_syntax.proofs.sections.stands_before.Goals as goal

pub returns-then-eq : goal.returns-then-eq
returns-then-eq c =
    let s = c.section.result in
    let is : same_kind s.kind c.args.kind ≡ true = tested c.kind.result s.kind c.args.kind c.eq.result true c.eq.ensures c.kind.ensures c.if-eq.true in
    let one = rw is at (count_of-take_one c.args.kind c.args.source.now c.loop-index.index s c.section.ensures) in
    (λ _. omega (arith, one, count_of-take c.args.kind c.args.source.now (c.loop-index.index + 1) c.args.end (omega arith)), λ _. refl)

pub loop-index-preserved : goal.loop-index-preserved
loop-index-preserved c =
    let s = c.section.result in
    let is : same_kind s.kind c.args.kind ≡ false = tested c.kind.result s.kind c.args.kind c.eq.result false c.eq.ensures c.kind.ensures c.if-eq.false in
    let one = rw is at (count_of-take_one c.args.kind c.args.source.now c.loop-index.index s c.section.ensures) in
    omega (arith, one, c.loop-index.invariant)
