-- The depth that is left goes down from `part` to what it makes.
use Rattle.std.proofs.Common.{◌+◌, ◌*◌}
use Rattle.rbg_test_search.proofs.tests.generated.Generator.+making.Given as goal

abbrev pub decreases-part : goal.decreases-part
decreases-part l = 2 * l.depth

abbrev pub decreases-star : goal.decreases-star
decreases-star l = 2 * l.depth + 1

abbrev pub decreases-pattern : goal.decreases-pattern
decreases-pattern l = 2 * l.depth + 1

abbrev pub decreases-parts : goal.decreases-parts
decreases-parts l = 2 * l.depth + 1
