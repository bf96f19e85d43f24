-- The depth of patterns that is left goes down from an action to the words of a pattern.
use Rattle.std.proofs.Common.{◌+◌, ◌*◌}
use Rattle.rbg_test_search.proofs.tests.meaning.Rules.+trying.Given as goal

abbrev pub decreases-try_at : goal.decreases-try_at
decreases-try_at l = 3 * l.nested

abbrev pub decreases-word_runs : goal.decreases-word_runs
decreases-word_runs l = 3 * l.nested + 1

abbrev pub decreases-some_word_runs : goal.decreases-some_word_runs
decreases-some_word_runs l = 3 * l.nested + 2
