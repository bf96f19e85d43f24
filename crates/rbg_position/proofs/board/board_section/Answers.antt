-- Tokens expand to one list of sections.
use Rattle.std.proofs.Common.{◌++◌, List, codes, ap, subst, ◌∙◌}
use Rattle.rbg_grammar.specs.Spells.{HasSection}
use Rattle.rbg_macro.proofs.Common.{HasSections, SectionTokens}
use Rattle.rbg_macro.specs.declared.source.SectionKind.TheVariants.{Board}
use Rattle.rbg_macro.proofs.OneExpansion.{sections_once}
use Rattle.rbg_macro.specs.Token.{Lexeme}
use Rattle.rbg_position.specs.Sections.{ExpandsBoard, section_text}
use Rattle.rbg_position.proofs.board.board_section.Goals as goal

has_board : (tokens ts : List Lexeme) (sections : List SectionTokens) → HasSections tokens sections → ExpandsBoard tokens ts → HasSection sections Board ts
has_board tokens ts sections expanded board =
    subst (λ ss. HasSection ss Board ts) (sections_once tokens board.sections sections board.expanded expanded) board.has

pub returns : goal.returns
returns c = λ ts board.
    c.in_ok-put_board.ensures ts (has_board c.args.tokens.now ts c.in_ok-source.source c.in_ok-source.ensures board)
    ∙ ap (λ old. old ++ section_text c.args.game.now c.args.pieces.now ts) (c.in_ok-extend_from_slice.ensures.items ∙ ap (λ old. old ++ codes "#board = ") c.new-out.ensures.items)
