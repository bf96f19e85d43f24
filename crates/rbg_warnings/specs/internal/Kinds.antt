-- Things by their kinds and numbers.
use Rattle.std.specs.Prelude.{ℕ, Bool, false}
use Rattle.rbg_rules.specs.Meaning.{AbstractArithmetic}
use Rattle.rbg_warnings.specs.Warnings.{names_variable}
use Rattle.rbg_warnings.specs.declared.named_thing.Kind.{Kind}
use Rattle.rbg_warnings.specs.declared.named_thing.Kind.TheVariants.{Players, Pieces, Variables, Directions}
use Rattle.rbg_warnings.specs.declared.named_thing.NamedThing.{NamedThing}
use Rattle.rbg_warnings.specs.declared.named_thing.NamedThing.TheVariants.{Player, Piece, Variable, Direction}

abbrev pub thing_of : Kind → ℕ → NamedThing
thing_of Players n = Player n
thing_of Pieces n = Piece n
thing_of Variables n = Variable n
thing_of Directions n = Direction n

-- the thing is a variable that the arithmetic names
abbrev pub is_variable_in : NamedThing → AbstractArithmetic → Bool
is_variable_in (Variable v) e = names_variable v e
is_variable_in _ e = false
