-- Laws of tokens and their expansion. The module `laws` proves each.
use Rattle.std.specs.Prelude.{ℕ, ◌≡◌, ◌≢◌, List, All}
use Rattle.rbg_macro.specs.declared.error.MacroError.{MacroError}
use Rattle.rbg_macro.specs.declared.error.MacroError.TheVariants as macro_errors
use Rattle.rbg_macro.specs.declared.limits.TheConstants.{MAX_JOINED, MAX_KEPT, MAX_LEVEL, MAX_READ}
use Rattle.rbg_macro.specs.Limits.{deepest_level, longest_joined, most_kept, most_read}
use Rattle.rbg_macro.specs.Expansion.{Expands, HasSections, HasMacroFault}
use Rattle.rbg_macro.specs.Macro.{Macro}
use Rattle.rbg_macro.specs.Sections.{AreLexemes, SectionTokens}
use Rattle.rbg_macro.specs.Text.{HasTokens}
use Rattle.rbg_macro.specs.Token.{Lexeme}

-- a list expands to one list at most, while one number of tokens is read
abbrev pub OneListLaw : Type 0
OneListLaw = (macros : List Macro) (d : ℕ) (ts us : List Lexeme) (n : ℕ) → Expands macros d ts us n →
    (vs : List Lexeme) (m : ℕ) → Expands macros d ts vs m → (us ≡ vs) × (n ≡ m)

-- tokens have the sections of one expansion at most
abbrev pub OneExpansionLaw : Type 0
OneExpansionLaw = (ts : List Lexeme) (a b : List SectionTokens) → HasSections ts a → HasSections ts b → a ≡ b

-- tokens with sections have no error other than out of memory
abbrev pub SectionsOrFaultLaw : Type 0
SectionsOrFaultLaw = (ts : List Lexeme) (sections : List SectionTokens) → HasSections ts sections →
    (e : MacroError) → HasMacroFault ts e → e ≡ macro_errors.Memory

-- tokens have at most one error other than out of memory
abbrev pub OneMacroErrorLaw : Type 0
OneMacroErrorLaw = (ts : List Lexeme) (e f : MacroError) → HasMacroFault ts e → HasMacroFault ts f →
    e ≢ macro_errors.Memory → f ≢ macro_errors.Memory → e ≡ f

-- every token of a text's sections spells a token of its kind: the text of a name token is a name
abbrev pub SpeltTokensLaw : Type 0
SpeltTokensLaw =
    (text : List ℕ) (ts : List Lexeme) (sections : List SectionTokens) →
    HasTokens text ts → HasSections ts sections → All AreLexemes sections

-- the limits of the code are those of the definitions
pub record LimitsLaw : Type 0 where
  pub kept : MAX_KEPT ≡ most_kept
  pub read : MAX_READ ≡ most_read
  pub level : MAX_LEVEL ≡ deepest_level
  pub joined : MAX_JOINED ≡ longest_joined
