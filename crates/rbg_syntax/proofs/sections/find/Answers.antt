use Rattle.std.proofs.Common.{◌≡◌, ◌+◌, drop, true, false, Some, sym, ap, ◌∙◌, List, slice_get}
use Rattle.rbg_macro.specs.Sections.{SectionTokens}
use Rattle.rbg_grammar.specs.Sections.{same_kind, sections_of}
use Rattle.rbg_syntax.proofs.SectionLists.{tested, sections_of-drop}
use Rattle.rbg_syntax.proofs.sections.find.Goals as goal

pub returns-then-eq : goal.returns-then-eq
returns-then-eq c =
    let s = c.section-section.result in
    let is : same_kind s.kind c.args.kind ≡ true = tested c.kind.result s.kind c.args.kind c.eq.result true c.eq.ensures c.kind.ensures c.if-eq.true in
    let here = sections_of-drop c.args.kind c.args.source.now c.loop-index.index s c.section-section.ensures in
    let front : slice_get (sections_of c.args.kind (drop c.loop-index.index c.args.source.now)) 0 ≡ Some s = rw (here, is) in
    sym front ∙ c.loop-index.invariant

pub loop-index-preserved : goal.loop-index-preserved
loop-index-preserved c =
    let s = c.section-section.result in
    let is : same_kind s.kind c.args.kind ≡ false = tested c.kind.result s.kind c.args.kind c.eq.result false c.eq.ensures c.kind.ensures c.if-eq.false in
    let here = sections_of-drop c.args.kind c.args.source.now c.loop-index.index s c.section-section.ensures in
    let same : sections_of c.args.kind (drop c.loop-index.index c.args.source.now) ≡ sections_of c.args.kind (drop (c.loop-index.index + 1) c.args.source.now) = here ∙ rw is in
    sym (ap (λ (xs : List SectionTokens). slice_get xs 0) same) ∙ c.loop-index.invariant
