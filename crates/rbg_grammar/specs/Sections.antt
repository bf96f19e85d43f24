-- The sections of one kind among the sections of a source.
use Rattle.std.specs.Prelude.{◌≡◌, ◌≤◌, ◌<◌, ℕ, List, ◌∷◌, ◌++◌, Bool, filter, length}
use denote.Enum.Bare.{sameb}
use Rattle.rbg_macro.specs.Sections.{SectionTokens}
use Rattle.rbg_macro.specs.contracts.source.SectionKind.{the_type}
use Rattle.rbg_macro.specs.declared.source.SectionKind.{SectionKind}

abbrev pub same_kind : SectionKind → SectionKind → Bool
same_kind kind other = sameb the_type kind other

-- the sections of one kind, in order of the text
abbrev pub sections_of : SectionKind → List SectionTokens → List SectionTokens
sections_of kind sections = filter (λ s. same_kind s.kind kind) sections

abbrev pub count_of : SectionKind → List SectionTokens → ℕ
count_of kind sections = length (sections_of kind sections)

-- no kind of section occurs twice
abbrev pub AreDifferent : List SectionTokens → Type 0
AreDifferent sections = (kind : SectionKind) → count_of kind sections ≤ 1

-- the first section that occurs a second time, in order of the text, is of this kind
pub record IsFirstTwice (sections : List SectionTokens) (kind : SectionKind) : Type 0 where
  pub before : List SectionTokens
  pub again : SectionTokens
  pub beyond : List SectionTokens
  pub whole : sections ≡ before ++ again ∷ beyond
  pub different : AreDifferent before
  pub same : again.kind ≡ kind
  pub twice : 0 < count_of kind before
