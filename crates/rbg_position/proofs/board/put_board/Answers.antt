-- The section that was found is the one of the board.
use Rattle.rbg_base.proofs.Common.{◌≡◌, ℕ, ◌++◌, List, Some, slice_get, sym, ap, subst, ◌∙◌, OnOk, same_Some}
use Rattle.rbg_macro.specs.Sections.{SectionTokens}
use Rattle.rbg_macro.specs.Token.{Lexeme}
use Rattle.rbg_position.specs.Sections.{section_text}
use Rattle.rbg_position.specs.internal.Walking.{IsSectionAt}
use Rattle.rbg_position.proofs.board.put_board.Goals as goal

-- the tokens of the section that has this index
tokens_at : (sections : List SectionTokens) (index : ℕ) (section : SectionTokens) (ts : List Lexeme) → slice_get sections index ≡ Some section → IsSectionAt sections ts index → section.tokens ≡ ts
tokens_at sections index section ts at is =
    ap (λ (s : SectionTokens). s.tokens) (same_Some section is.section (sym at ∙ is.at)) ∙ is.tokens

pub returns-in-Some : goal.returns-in-Some
returns-in-Some c = λ ts has.
    subst (λ us. OnOk c.put_section.result (c.put_section.new.out.items ≡ c.args.out.now.items ++ section_text c.args.game.now c.args.pieces.now us))
    (tokens_at c.args.source.now c.in-Some.index c.section.result ts c.section.ensures (c.in-Some.ensures.found ts has)) c.put_section.ensures

pub returns-in-None : goal.returns-in-None
returns-in-None c = λ ts has. absurd (c.in-None.ensures.found ts has)
