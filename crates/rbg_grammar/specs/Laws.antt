-- Laws that the definitions have to obey. The module `laws` proves each.
use Rattle.std.specs.Prelude.{◌≡◌, ℕ, List}
use Rattle.rbg_macro.specs.Token.{Lexeme}
use Rattle.rbg_macro.specs.Sections.{SectionTokens}
use Rattle.rbg_grammar.specs.Formed.{IsWhole}
use Rattle.rbg_macro.specs.declared.source.SectionKind.{SectionKind}
use Rattle.rbg_grammar.specs.Spells.{Spells, StopsAt, IsTooDeep}
use Rattle.rbg_grammar.specs.Tree.{SpeltDescription}

-- Sections spell at most one description.
abbrev pub OneDescriptionLaw : Type 0
OneDescriptionLaw =
    (sections : List SectionTokens) (a b : SpeltDescription)
    → Spells sections a → Spells sections b → a ≡ b

-- What sections spell has a player and a piece, and no sequence, sum or product of fewer than two parts.
abbrev pub WholeLaw : Type 0
WholeLaw = (sections : List SectionTokens) (d : SpeltDescription) → Spells sections d → IsWhole d

-- The tokens of a section stop fitting at most at one place.
abbrev pub OnePlaceLaw : Type 0
OnePlaceLaw =
    (kind : SectionKind) (section : SectionTokens) (a b : ℕ)
    → StopsAt kind section a → StopsAt kind section b → a ≡ b

-- At most one bracket of a list of tokens is too deep.
abbrev pub OneTooDeepLaw : Type 0
OneTooDeepLaw = (ts : List Lexeme) (a b : ℕ) → IsTooDeep ts a → IsTooDeep ts b → a ≡ b
