-- Why sections spell no description, by the parser's errors.
use Rattle.std.specs.Prelude.{◌≡◌, ◌≢◌, List, [], Result, Ok, Err}
use Rattle.rbg_macro.specs.Sections.{SectionTokens}
use Rattle.rbg_macro.specs.declared.source.SectionKind.{SectionKind}
use Rattle.rbg_macro.specs.declared.source.SectionKind.TheVariants.{Variables}
use Rattle.rbg_grammar.specs.Descriptions.{description_of}
use Rattle.rbg_grammar.specs.Sections.{sections_of, IsFirstTwice}
use Rattle.rbg_grammar.specs.Spells.{IsMisspelt, OpensTooDeep}
use Rattle.rbg_grammar.specs.Tree.{SpeltDescription}
use Rattle.rbg_grammar.specs.declared.description.Description.{Description}
use Rattle.rbg_syntax.specs.declared.error.SyntaxError.{SyntaxError}
use Rattle.rbg_syntax.specs.declared.error.SyntaxError.TheVariants as errors

-- the error names that section
abbrev pub IsTwice : List SectionTokens → SyntaxError → Type 0
IsTwice sections (errors.Expected at what) = ⊥
IsTwice sections (errors.MissingSection which) = ⊥
IsTwice sections (errors.SectionTwice which) = IsFirstTwice sections which
IsTwice sections (errors.TooDeep at) = ⊥
IsTwice sections errors.Memory = ⊥

-- the error means that there is no section of this kind
abbrev pub IsMissing : SectionKind → List SectionTokens → SyntaxError → Type 0
IsMissing kind sections e = (e ≡ errors.MissingSection kind) × (sections_of kind sections ≡ [])

-- The sections have the fault that an error names. Running out of memory is no fault of the sections.
abbrev pub HasFault : List SectionTokens → SyntaxError → Type 0
HasFault sections (errors.Expected at what) = IsMisspelt sections at
HasFault sections (errors.MissingSection which) = (sections_of which sections ≡ []) × (which ≢ Variables)
HasFault sections (errors.SectionTwice which) = IsFirstTwice sections which
HasFault sections (errors.TooDeep at) = OpensTooDeep sections at
HasFault sections errors.Memory = Unit {0}

-- the result is this description, unless memory ran out
abbrev pub IsAnswer : SpeltDescription → Result Description SyntaxError → Type 0
IsAnswer d (Ok x) = description_of x ≡ d
IsAnswer d (Err e) = e ≡ errors.Memory
