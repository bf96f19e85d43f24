-- The section of a board among the sections of a text.
use Rattle.rbg_base.proofs.Common.{◌≡◌, ℕ, ◌+◌, ◌≤◌, Bool, true, false, cond, List, [], ◌∷◌, length, get_or, drop, slice_get, Some, sym, ap, ◌∙◌, arith, drop_more, drop_all, slice_get_within, get_or_from_slice_get}
use Rattle.rbg_grammar.proofs.Common.{same_kind, sections_of, HasSection}
use Rattle.rbg_macro.specs.Sections.{SectionTokens}
use Rattle.rbg_macro.specs.declared.source.SectionKind.TheVariants.{Board}
use Rattle.rbg_macro.specs.Token.{Lexeme}
use Rattle.rbg_position.specs.internal.Walking.{IsSectionAt}

-- the list from an item on
item_on : (sections : List SectionTokens) (i : ℕ) (section : SectionTokens) → slice_get sections i ≡ Some section → drop i sections ≡ section ∷ drop (i + 1) sections
item_on sections i section at =
    drop_more sections i section (slice_get_within sections i section at)
    ∙ ap (λ s. s ∷ drop (i + 1) sections) (get_or_from_slice_get sections i section section at)

-- a section of a board is the first one, or it isn't one
tested : (sections : List SectionTokens) (i : ℕ) (section : SectionTokens) (test : Bool) → slice_get sections i ≡ Some section → same_kind section.kind Board ≡ test
    → sections_of Board (drop i sections) ≡ cond test (section ∷ sections_of Board (drop (i + 1) sections)) (sections_of Board (drop (i + 1) sections))
tested sections i section test at is =
    ap (sections_of Board) (item_on sections i section at)
    ∙ ap (λ (t : Bool). cond t (section ∷ sections_of Board (drop (i + 1) sections)) (sections_of Board (drop (i + 1) sections))) is

pub no_board_here : (sections : List SectionTokens) (i : ℕ) (section : SectionTokens) → slice_get sections i ≡ Some section → same_kind section.kind Board ≡ false
    → sections_of Board (drop i sections) ≡ sections_of Board (drop (i + 1) sections)
no_board_here sections i section at is = tested sections i section false at is

same_first : (s t : SectionTokens) (ss us : List SectionTokens) → s ∷ ss ≡ t ∷ us → s ≡ t
same_first s t ss us same = ap (λ ts. get_or ts 0 s) same

pub board_here : (sections : List SectionTokens) (i : ℕ) (section : SectionTokens) (ts : List Lexeme) → sections_of Board sections ≡ sections_of Board (drop i sections) → slice_get sections i ≡ Some section
    → same_kind section.kind Board ≡ true → HasSection sections Board ts → IsSectionAt sections ts i
board_here sections i section ts so_far at is has =
    let same : section ≡ has.section = same_first section has.section (sections_of Board (drop (i + 1) sections)) [] (sym (tested sections i section true at is) ∙ sym so_far ∙ has.only) in
    record { section = section; at = at; tokens = ap (λ (s : SectionTokens). s.tokens) same ∙ has.tokens }

pub board_nowhere : (sections : List SectionTokens) (i : ℕ) (ts : List Lexeme) → sections_of Board sections ≡ sections_of Board (drop i sections) → length sections ≤ i → HasSection sections Board ts → ⊥
board_nowhere sections i ts so_far past has =
    let none : sections_of Board (drop i sections) ≡ [] = ap (sections_of Board) (drop_all i sections past) in
    let one : 0 ≡ length (has.section ∷ []) = ap length (sym none ∙ sym so_far ∙ has.only) in
    omega (arith, one)
