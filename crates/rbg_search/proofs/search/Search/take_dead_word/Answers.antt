use Rattle.std.proofs.Common.{◌/◌, arith}
use Rattle.rbg_rules.specs.Meaning.{IsStateOf}
use Rattle.rbg_flat.specs.Paths.{ArePathsOf}
use Rattle.rbg_search.proofs.Common.{HasSetsFor, IsToBeAsked}
use Rattle.rbg_search.proofs.Kept.{onward_rules}
use Rattle.rbg_search.specs.internal.DeadWords.{AreWaiting}
use Rattle.rbg_search.proofs.TakenWords.{dead_left, dead_taken, waiting_less}
use Rattle.rbg_search.proofs.search.Search.take_dead_word.Goals as goal

pub take_all_by_sets-requires-clause-paths : goal.take_all_by_sets-requires-clause-paths
take_all_by_sets-requires-clause-paths g c = onward_rules (λ x. ArePathsOf x c.args.paths.now) c.args.self.now c.ask_dead-answers.new.self c.ask_dead-answers.ensures.kept c.requires.paths

pub take_all_by_sets-requires-clause-fits : goal.take_all_by_sets-requires-clause-fits
take_all_by_sets-requires-clause-fits g c = onward_rules (λ x. IsStateOf x c.args.state.now.state) c.args.self.now c.ask_dead-answers.new.self c.ask_dead-answers.ensures.kept c.requires.fits

pub take_all_by_sets-requires-clause-sets : goal.take_all_by_sets-requires-clause-sets
take_all_by_sets-requires-clause-sets g c = onward_rules (λ x. HasSetsFor x c.args.flat.now.value) c.args.self.now c.ask_dead-answers.new.self c.ask_dead-answers.ensures.kept c.requires.sets

pub take_all_by_sets-requires-clause-next : goal.take_all_by_sets-requires-clause-next
take_all_by_sets-requires-clause-next g c = onward_rules (λ x. IsToBeAsked x c.args.flat.now.value c.args.vertex c.args.position) c.args.self.now c.ask_dead-answers.new.self c.ask_dead-answers.ensures.kept c.requires.next

pub take_all_by_sets-requires-clause-waits : goal.take_all_by_sets-requires-clause-waits
take_all_by_sets-requires-clause-waits g c =
    onward_rules (λ x. AreWaiting x c.args.flat.now.value c.args.position (c.args.vertex / 64) c.ask_dead-answers.result.asked) c.args.self.now c.ask_dead-answers.new.self c.ask_dead-answers.ensures.kept
    (waiting_less c.args.self.now.game c.args.flat.now.value c.args.position (c.args.vertex / 64) c.args.word c.ask_dead-answers.result.asked c.ask_dead-answers.ensures.within c.requires.waits)

pub returns-then-answers-eq0-clause-finds : goal.returns-then-answers-eq0-clause-finds
returns-then-answers-eq0-clause-finds g c = λ first s f is.
    dead_left is c.args.vertex c.args.position c.ask_dead-answers.result.asked c.ask_dead-answers.result.held c.requires.next
    (waiting_less c.args.self.now.game c.args.flat.now.value c.args.position (c.args.vertex / 64) c.args.word c.ask_dead-answers.result.asked c.ask_dead-answers.ensures.within c.requires.waits)
    c.ask_dead-answers.ensures.asks c.if-answers-eq0.true

pub returns-then-answers-eq0-clause-next : goal.returns-then-answers-eq0-clause-next
returns-then-answers-eq0-clause-next g c = λ _.
    onward_rules (λ x. IsToBeAsked x c.args.flat.now.value c.args.vertex c.args.position) c.args.self.now c.ask_dead-answers.new.self c.ask_dead-answers.ensures.kept c.requires.next

pub returns-clause-finds : goal.returns-clause-finds
returns-clause-finds g c = λ first s f is.
    dead_taken is c.args.vertex c.args.position c.ask_dead-answers.result.asked c.ask_dead-answers.result.held c.requires.next
    (waiting_less c.args.self.now.game c.args.flat.now.value c.args.position (c.args.vertex / 64) c.args.word c.ask_dead-answers.result.asked c.ask_dead-answers.ensures.within c.requires.waits)
    c.ask_dead-answers.ensures.asks c.take_all_by_sets.new.flat.value c.take_all_by_sets.ensures

pub returns-clause-less : goal.returns-clause-less
returns-clause-less g c = λ _. c.take_all_by_sets.ensures.lighter c.lowest-first.result c.lowest-first.ensures.set

pub returns-clause-lighter : goal.returns-clause-lighter
returns-clause-lighter g c =
    let less = c.take_all_by_sets.ensures.lighter c.lowest-first.result c.lowest-first.ensures.set in
    omega (arith, less)
