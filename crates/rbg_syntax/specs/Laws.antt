-- A law of the parser's errors. The module `laws` proves it.
use Rattle.std.specs.Prelude.{◌≡◌, List}
use Rattle.rbg_macro.specs.Sections.{SectionTokens}
use Rattle.rbg_grammar.specs.Spells.{Spells}
use Rattle.rbg_grammar.specs.Tree.{SpeltDescription}
use Rattle.rbg_syntax.specs.Faults.{HasFault}
use Rattle.rbg_syntax.specs.declared.error.SyntaxError.{SyntaxError}
use Rattle.rbg_syntax.specs.declared.error.SyntaxError.TheVariants as errors

-- If the sections have a fault, they spell no description. So if they spell one, an error is out of memory.
abbrev pub FaultLaw : Type 0
FaultLaw =
    (sections : List SectionTokens) (d : SpeltDescription) (e : SyntaxError)
    → Spells sections d → HasFault sections e → e ≡ errors.Memory
