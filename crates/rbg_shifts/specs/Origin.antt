-- A point in the rules from which leaps are asked for.
use Rattle.rbg_rules.specs.Meaning.{Start, beginning, after}
use Rattle.rbg_auto.specs.Steps.{level_of}
use Rattle.rbg_shifts.specs.declared.origin.Origin.{Origin}
use Rattle.rbg_shifts.specs.declared.origin.Origin.TheVariants.{Begin, After}

abbrev pub start_of : Origin → Start
start_of (Begin expr) = beginning (level_of expr)
start_of (After p) = after p
