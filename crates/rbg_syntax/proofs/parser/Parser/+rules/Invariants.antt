-- Each atom in brackets has one bracket less to open, and the parts of a sum are sequences. What a loop has read comes
-- before what it will read.
use Rattle.std.proofs.Common.{ℕ, ◌+◌, ◌*◌, length, map}
use Rattle.rbg_grammar.specs.Views.{rule_of}
use Rattle.rbg_grammar.proofs.Turns.{ReadsOn}
use Rattle.rbg_syntax.specs.declared.rules.Level.{Level}
use Rattle.rbg_syntax.specs.declared.rules.Level.TheVariants as levels
use Rattle.rbg_syntax.specs.internal.Levels.{further_part_at, goes_on}
use Rattle.rbg_syntax.proofs.parser.Parser.+rules.Given as goal

-- the place of a call among those that may be nested in each other: there are fourteen in a bracket
abbrev pub place : ℕ → ℕ → ℕ
place brackets k = 14 * brackets + k

-- the calls of a sequence that are inside one of this level: four in a sum, none in a sequence
abbrev pub below : Level → ℕ
below levels.Sequence = 0
below levels.Sum = 4

abbrev pub decreases-atom : goal.decreases-atom
decreases-atom l = place l.brackets 0

abbrev pub decreases-item : goal.decreases-item
decreases-item l = place l.brackets 1

abbrev pub decreases-part : goal.decreases-part
decreases-part l = place l.brackets (below l.level + 2)

abbrev pub decreases-further_part : goal.decreases-further_part
decreases-further_part l = place l.brackets (below l.level + 3)

abbrev pub decreases-further : goal.decreases-further
decreases-further l = place l.brackets (below l.level + 4)

abbrev pub decreases-list : goal.decreases-list
decreases-list l = place l.brackets (below l.level + 5)

abbrev pub decreases-rules : goal.decreases-rules
decreases-rules l = place l.brackets 10

abbrev pub decreases-pattern : goal.decreases-pattern
decreases-pattern l = place l.brackets 11

abbrev pub decreases-in_braces : goal.decreases-in_braces
decreases-in_braces l = place l.brackets 12

abbrev pub decreases-bracket_atom : goal.decreases-bracket_atom
decreases-bracket_atom l = place l.brackets 13

abbrev pub invariant-further-loop-alloc : goal.invariant-further-loop-alloc
invariant-further-loop-alloc l = ReadsOn (rule_of l.fn.first) (goes_on l.level) (further_part_at l.level l.brackets) l.fn.self (map rule_of l.parts.items) l.self

abbrev pub decreases-further-loop-alloc : goal.decreases-further-loop-alloc
decreases-further-loop-alloc l = length l.self
