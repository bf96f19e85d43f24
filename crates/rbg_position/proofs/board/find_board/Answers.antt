-- One section more is that of a board, or isn't.
use Rattle.std.proofs.Common.{◌∙◌, sym, ap, arith}
use Rattle.rbg_grammar.specs.Sections.{same_kind}
use Rattle.rbg_macro.specs.declared.source.SectionKind.TheVariants.{Board}
use Rattle.rbg_position.proofs.Boards.{board_here, board_nowhere, no_board_here}
use Rattle.rbg_position.proofs.board.find_board.Goals as goal

pub returns-then-is_board-clause-found : goal.returns-then-is_board-clause-found
returns-then-is_board-clause-found c = λ ts has.
    board_here c.args.source.now c.loop-index.index c.section.result ts c.loop-index.invariant c.section.ensures
    (ap (λ kind. same_kind kind Board) (sym c.kind.ensures) ∙ sym c.is_board.ensures ∙ c.if-is_board.true) has

pub loop-index-preserved : goal.loop-index-preserved
loop-index-preserved c =
    c.loop-index.invariant
    ∙ no_board_here c.args.source.now c.loop-index.index c.section.result c.section.ensures
    (ap (λ kind. same_kind kind Board) (sym c.kind.ensures) ∙ sym c.is_board.ensures ∙ c.if-is_board.false)

pub returns-clause-found : goal.returns-clause-found
returns-clause-found c = λ ts has.
    absurd (board_nowhere c.args.source.now c.loop-index.index ts c.loop-index.invariant (omega (arith, c.loop-index-test.false)) has)
