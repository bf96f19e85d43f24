-- A section as contracts see it.
use Rattle.std.specs.Prelude.{ℕ, All, List}
use Rattle.rbg_macro.specs.declared.source.SectionKind.{SectionKind}
use Rattle.rbg_macro.specs.Spelling.{IsLexeme}
use Rattle.rbg_macro.specs.Token.{Lexeme}

-- a section: its kind, the offset of its `#`, and its tokens
pub record SectionTokens : Type 0 where
  pub kind : SectionKind
  pub at : ℕ
  pub tokens : List Lexeme

-- the text of each token of the section spells a token of its kind
abbrev pub AreLexemes : SectionTokens → Type 0
AreLexemes section = All IsLexeme section.tokens
