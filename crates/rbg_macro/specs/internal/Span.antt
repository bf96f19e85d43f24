-- Tokens and sections as places in a buffer and in a list.
use Rattle.std.specs.Prelude.{ℕ, List, ◌≡◌, ◌≤◌, length, slice_range}
use Rattle.rbg_macro.specs.declared.buffer.KeptToken.{KeptToken}
use Rattle.rbg_macro.specs.declared.buffer.KeptToken.TheVariants.{OfText, Joined}
use Rattle.rbg_macro.specs.declared.buffer.Span.{Span}
use Rattle.rbg_macro.specs.declared.source.SectionSpan.{SectionSpan}
use Rattle.rbg_macro.specs.Sections.{AreLexemes, SectionTokens}
use Rattle.rbg_macro.specs.Token.{Lexeme, lexeme_of}

-- the token whose bytes are at a place of the buffer
abbrev pub lexeme_in : List ℕ → Span → Lexeme
lexeme_in texts s = record { kind = s.kind; text = slice_range texts s.start s.end; at = s.at }

-- the place is one of the buffer
pub record IsSpanWithin (texts : List ℕ) (s : Span) : Type 0 where
  pub ordered : s.start ≤ s.end
  pub within : s.end ≤ length texts

-- a token that was kept: one of the text, or one whose bytes are in the buffer
abbrev pub kept_lexeme : List ℕ → KeptToken → Lexeme
kept_lexeme texts (OfText t) = lexeme_of t
kept_lexeme texts (Joined s) = lexeme_in texts s

abbrev pub IsKeptWithin : List ℕ → KeptToken → Type 0
IsKeptWithin texts (OfText t) = Unit {0}
IsKeptWithin texts (Joined s) = IsSpanWithin texts s

-- this token was kept
pub record IsKeptAs (texts : List ℕ) (t : Lexeme) (kept : KeptToken) : Type 0 where
  pub within : IsKeptWithin texts kept
  pub same : kept_lexeme texts kept ≡ t

-- the section whose tokens are at a place of the list
abbrev pub section_in : List Lexeme → SectionSpan → SectionTokens
section_in tokens s = record { kind = s.kind; at = s.at; tokens = slice_range tokens s.start s.end }

-- the place is one of a list of this length
pub record IsSectionWithin (len : ℕ) (s : SectionSpan) : Type 0 where
  pub ordered : s.start ≤ s.end
  pub within : s.end ≤ len

-- the place is one of the list, and its tokens spell tokens of their kinds
pub record IsSectionIn (tokens : List Lexeme) (s : SectionSpan) : Type 0 where
  pub within : IsSectionWithin (length tokens) s
  pub spelt : AreLexemes (section_in tokens s)
