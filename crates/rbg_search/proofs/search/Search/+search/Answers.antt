use Rattle.rbg_base.proofs.Common.{rules, ◌≡◌, ℕ, ◌<◌, ◌≤◌, List, sym, ap, subst, arith, [], ◌∷◌, ◌++◌, ◌-◌, refl, false, true, IsTrue, ◌↔◌, All, All-contains}
use Rattle.rbg_rules.specs.Meaning.{inside, IsPatternAt, Start, beginning, after, AbstractState, IsStateOf, Applies, SomeWordRuns, pattern, IsStart}
use Rattle.rbg_search.proofs.Along.{start_of, at_vertex, NestsFrom}
use Rattle.rbg_flat.specs.Paths.{ArePathsOf}
use Rattle.rbg_search.proofs.Common.{HasSetsFor, IsWhole, IsToBeAsked, IsReady, RunsAfterPair, SomeRunsAfter, StandsInPattern, CountsForced, RanAfter, Deep, Wide, Searching}
use Rattle.rbg_search.proofs.Asking.{back, mark_within, given_room, runs_one, runs_here, runs_there}
use Rattle.rbg_search.proofs.Afters.{all_ready}
use Rattle.rbg_search.proofs.Turns.{turn_fewer, turn_after, turn_there, turn_end, turn_some, none_of_all, ran_permuted}
use Rattle.std.proofs.lemmas.List.Sorted.{IsPermutation-refl}
use Rattle.rbg_search.proofs.Kept.{onward, before, onward_rules, rules_before}
use Rattle.rbg_search.proofs.Afters.{runs_at_end}
use Rattle.rbg_search.proofs.Counted.{search_before}
use Rattle.rbg_search.proofs.Forcing.{word_forced}
use Rattle.rbg_search.proofs.ForcingSteps.{ran_some, asked_forced}
use Rattle.rbg_search.proofs.Patterns.{pattern_inside, inside_start}
use Rattle.rbg_search.proofs.Counted.{memory_not_deep, memory_not_wide, ok_not_err}
use Rattle.rbg_search.proofs.CountedSteps.{not_memory, inside_pairs}
use Rattle.rbg_search.proofs.Asks.{asked_since, found_since, handed_on, answered_on, not_entered, as_pattern, asked_there, asked_after, asked_same}
use Rattle.rbg_search.proofs.Finding.{finds_none, finds_room, finds_asked, finds_refused, asks_within}
use Rattle.rbg_search.proofs.FindingBySets.{sets_begun, sets_on, sets_now, reached_here, sets_left, sets_lost, sets_more, sets_forced, sets_part, sets_own}
use Rattle.rbg_search.proofs.Orders.{positions_within}
use Rattle.rbg_search.proofs.Trying.{tries_none, tries_end, tries_deep, tries_failed, tries_yes, tries_grow, tries_more}
use Rattle.rbg_search.proofs.search.Search.+search.Goals as goal

pub ask-undo_to-requires : goal.ask-undo_to-requires
ask-undo_to-requires g t c = mark_within c.args.state.now c.stand.new.state c.word_runs-runs.new.state c.mark-mark.result c.mark-mark.ensures c.stand.ensures.after c.word_runs-runs.ensures.asked.given_back

pub ask-is_valid-requires : goal.ask-is_valid-requires
ask-is_valid-requires g t c = record {
  there = onward_rules (λ x. IsPatternAt x.rules c.args.position) c.args.self.now c.word_runs-runs.new.self c.word_runs-runs.ensures.asked.kept c.requires.there;
}

pub ask-returns-clause-valid : goal.ask-returns-clause-valid
ask-returns-clause-valid g t c =
    let here : AbstractState = at_vertex c.args.state.now.state c.args.vertex in
    let moved : c.stand.new.state.state ≡ here = c.stand.ensures.moved in
    let decides : IsTrue c.in_ok-runs.field-0 ↔ SomeWordRuns c.word_runs-runs.new.self.game here (beginning (inside c.args.position)) =
    onward_rules (λ x. IsTrue c.in_ok-runs.field-0 ↔ SomeWordRuns x here (beginning (inside c.args.position))) c.args.self.now c.word_runs-runs.new.self c.word_runs-runs.ensures.asked.kept
    (subst (λ (s : AbstractState). IsTrue c.in_ok-runs.field-0 ↔ SomeWordRuns c.args.self.now.game s (beginning (inside c.args.position))) moved c.in_ok-runs.ensures.answer) in
    rules_before (λ x. IsTrue c.is_valid.result ↔ Applies x c.args.position here here) c.args.self.now c.word_runs-runs.new.self c.word_runs-runs.ensures.asked.kept (c.is_valid.ensures here decides)

pub ask-word_runs-runs-requires : goal.ask-word_runs-runs-requires
ask-word_runs-runs-requires g t c κs within =
    let fits : IsStateOf c.args.self.now.game c.stand.new.state.state = c.stand.ensures.fits c.args.self.now.game c.requires.fits in
    let nested : NestsFrom c.args.self.now.game.rules (c.args.nested - 1) (beginning (inside c.args.position)) = c.requires.nested (c.args.nested - 1) (omega (arith, c.requires.some)) in
    (search rules, (within, (c.requires.paths, (fits, (nested, pattern_inside c.args.self.now.game.rules c.args.position c.requires.there)))))

pub ask-answer-requires-clause-few : goal.ask-answer-requires-clause-few
ask-answer-requires-clause-few g t c = c.in-Some.ensures.taken.few

pub ask-returns-in-Some-clause-asked : goal.ask-returns-in-Some-clause-asked
ask-returns-in-Some-clause-asked g t c = record {
  kept = c.answer.ensures.kept;
  given_back = refl;
  room = omega arith;
  counts = c.answer.ensures.counts (at_vertex c.args.state.now.state c.args.vertex);
  taken = c.answer.ensures.taken (at_vertex c.args.state.now.state c.args.vertex) c.in-Some.ensures.taken;
}

pub ask-returns-in_err-runs-clause-asked : goal.ask-returns-in_err-runs-clause-asked
ask-returns-in_err-runs-clause-asked g t c =
    let given = back c.args.state.now c.stand.new.state c.word_runs-runs.new.state c.undo_to.new.self c.mark-mark.result c.mark-mark.ensures c.stand.ensures.after c.word_runs-runs.ensures.asked.given_back c.undo_to.ensures.given_back in
    let there =
    asked_there c.word_runs-runs.ensures.asked c.args.state.now c.undo_to.new.self (at_vertex c.args.state.now.state c.args.vertex) c.args.self.now.modifiers (sym c.stand.ensures.moved) (ap (λ (x : Searching). x.modifiers) c.self.view_is) given
    (given_room c.args.state.now c.stand.new.state c.word_runs-runs.new.state c.undo_to.new.self c.stand.ensures.capacity c.word_runs-runs.ensures.asked.given_back c.word_runs-runs.ensures.asked.room c.undo_to.ensures.capacity given) in
    handed_on there c.from_residual.result c.in_err-runs.field-0.0 c.in_err-runs.was c.from_residual.ensures.1

pub ask-returns-clause-asked : goal.ask-returns-clause-asked
ask-returns-clause-asked g t c =
    let given = back c.args.state.now c.stand.new.state c.word_runs-runs.new.state c.undo_to.new.self c.mark-mark.result c.mark-mark.ensures c.stand.ensures.after c.word_runs-runs.ensures.asked.given_back c.undo_to.ensures.given_back in
    let there =
    asked_there c.word_runs-runs.ensures.asked c.args.state.now c.undo_to.new.self (at_vertex c.args.state.now.state c.args.vertex) c.args.self.now.modifiers (sym c.stand.ensures.moved) (ap (λ (x : Searching). x.modifiers) c.self.view_is) given
    (given_room c.args.state.now c.stand.new.state c.word_runs-runs.new.state c.undo_to.new.self c.stand.ensures.capacity c.word_runs-runs.ensures.asked.given_back c.word_runs-runs.ensures.asked.room c.undo_to.ensures.capacity given) in
    answered_on there c.in_ok-runs.field-0 c.is_valid.result c.in_ok-runs.was

-- ---- a flat part

pub flat_part-begun_by_sets-requires-clause-paths : goal.flat_part-begun_by_sets-requires-clause-paths
flat_part-begun_by_sets-requires-clause-paths g t c = onward_rules (λ x. ArePathsOf x c.args.paths.now) c.args.self.now c.enter.new.self c.enter.ensures.kept c.requires.paths

pub flat_part-begun_by_sets-requires-clause-fits : goal.flat_part-begun_by_sets-requires-clause-fits
flat_part-begun_by_sets-requires-clause-fits g t c =
    onward IsStateOf c.args.self.now c.enter.new.self c.args.state.now c.enter.new.state c.enter.ensures.kept c.enter.ensures.given_back c.requires.fits

pub flat_part-begun_by_sets-requires-clause-stands : goal.flat_part-begun_by_sets-requires-clause-stands
flat_part-begun_by_sets-requires-clause-stands g t c = onward_rules (λ x. IsStart x.rules (start_of c.args.origin)) c.args.self.now c.enter.new.self c.enter.ensures.kept c.requires.start

pub flat_part-returns-in_err-enter-clause-asked : goal.flat_part-returns-in_err-enter-clause-asked
flat_part-returns-in_err-enter-clause-asked g t c =
    not_entered c.args.self.now c.enter.new.self c.args.state.now c.enter.new.state (start_of c.args.origin) c.enter.result c.from_residual.result c.in_err-enter.field-0.0 c.in_err-enter.was c.from_residual.ensures.1 c.enter.ensures.kept c.enter.ensures.given_back c.enter.ensures.room
    (c.enter.ensures.counts c.args.state.now.state (start_of c.args.origin) c.requires.start) (c.in_err-enter.ensures.lost c.args.state.now.state (start_of c.args.origin))

pub flat_part-returns-in_err-flat-clause-asked : goal.flat_part-returns-in_err-flat-clause-asked
flat_part-returns-in_err-flat-clause-asked g t c =
    finds_refused
    (finds_none c.args.self.now c.enter.new.self c.begun_by_sets.new.self c.args.state.now c.enter.new.state (start_of c.args.origin) c.enter.ensures.lawful c.requires.start c.enter.ensures.kept c.begun_by_sets.ensures.kept c.enter.ensures.given_back c.enter.ensures.room c.in_ok-enter.ensures.enough c.in_ok-enter.ensures.opened c.enter.ensures.none_taken c.enter.ensures.spent)
    c.begun_by_sets.new.self refl refl c.from_residual-in_err-flat.result c.in_err-flat.field-0.0 c.from_residual-in_err-flat.ensures.1 c.in_err-flat.ensures.memory refl

pub flat_part-loop-vertex-init : goal.flat_part-loop-vertex-init
flat_part-loop-vertex-init g t c =
    sets_begun c.enter.new.self c.in_ok-flat.flat.value
    (finds_none c.args.self.now c.enter.new.self c.begun_by_sets.new.self c.args.state.now c.enter.new.state (start_of c.args.origin) c.enter.ensures.lawful c.requires.start c.enter.ensures.kept c.begun_by_sets.ensures.kept c.enter.ensures.given_back c.enter.ensures.room c.in_ok-enter.ensures.enough c.in_ok-enter.ensures.opened c.enter.ensures.none_taken c.enter.ensures.spent)
    c.enter.ensures.kept c.in_ok-flat.ensures.begins

pub flat_part-advance_by_sets-requires-clause-paths : goal.flat_part-advance_by_sets-requires-clause-paths
flat_part-advance_by_sets-requires-clause-paths g t c = onward_rules (λ x. ArePathsOf x c.args.paths.now) c.args.self.now c.loop-vertex.self c.loop-vertex.invariant.finds.kept c.requires.paths

pub flat_part-advance_by_sets-requires-clause-fits : goal.flat_part-advance_by_sets-requires-clause-fits
flat_part-advance_by_sets-requires-clause-fits g t c =
    onward IsStateOf c.args.self.now c.loop-vertex.self c.args.state.now c.loop-vertex.state c.loop-vertex.invariant.finds.kept c.loop-vertex.invariant.finds.given_back c.requires.fits

pub flat_part-advance_by_sets-requires-clause-sets : goal.flat_part-advance_by_sets-requires-clause-sets
flat_part-advance_by_sets-requires-clause-sets g t c = sets_now c.loop-vertex.invariant

pub flat_part-take_dead-requires-clause-paths : goal.flat_part-take_dead-requires-clause-paths
flat_part-take_dead-requires-clause-paths g t c = onward_rules (λ x. ArePathsOf x c.args.paths.now) c.args.self.now c.loop-vertex.self c.loop-vertex.invariant.finds.kept c.requires.paths

pub flat_part-take_dead-requires-clause-fits : goal.flat_part-take_dead-requires-clause-fits
flat_part-take_dead-requires-clause-fits g t c =
    onward IsStateOf c.args.self.now c.loop-vertex.self c.args.state.now c.loop-vertex.state c.loop-vertex.invariant.finds.kept c.loop-vertex.invariant.finds.given_back c.requires.fits

pub flat_part-take_dead-requires-clause-sets : goal.flat_part-take_dead-requires-clause-sets
flat_part-take_dead-requires-clause-sets g t c = c.advance_by_sets.ensures.advances.sets

pub flat_part-take_dead-requires-clause-next : goal.flat_part-take_dead-requires-clause-next
flat_part-take_dead-requires-clause-next g t c = search rules

pub flat_part-ask-requires : goal.flat_part-ask-requires
flat_part-ask-requires g t c κs within =
    let is = c.take_dead.ensures.finds c.args.self.now c.args.state.now (start_of c.args.origin) (sets_on c.loop-vertex.invariant c.advance_by_sets.new.flat.value c.advance_by_sets.ensures.advances) in
    let next : IsToBeAsked c.take_dead.new.self.game c.take_dead.new.flat.value c.in-Some.field-0.vertex c.in-Some.field-0.position = c.take_dead.ensures.next c.if-not-take_dead.true in
    (search rules, (within, (onward_rules (λ x. ArePathsOf x c.args.paths.now) c.args.self.now c.take_dead.new.self is.finds.kept c.requires.paths, asks_within is.finds c.requires.fits c.args.nested c.requires.nested _ _ (reached_here is _ _ next) next.vertex next.pattern)))

pub flat_part-take_by_sets-requires-clause-paths : goal.flat_part-take_by_sets-requires-clause-paths
flat_part-take_by_sets-requires-clause-paths g t c =
    let is = c.take_dead.ensures.finds c.args.self.now c.args.state.now (start_of c.args.origin) (sets_on c.loop-vertex.invariant c.advance_by_sets.new.flat.value c.advance_by_sets.ensures.advances) in
    onward_rules (λ x. ArePathsOf x c.args.paths.now) c.take_dead.new.self c.ask.new.self c.ask.ensures.asked.kept (onward_rules (λ x. ArePathsOf x c.args.paths.now) c.args.self.now c.take_dead.new.self is.finds.kept c.requires.paths)

pub flat_part-take_by_sets-requires-clause-fits : goal.flat_part-take_by_sets-requires-clause-fits
flat_part-take_by_sets-requires-clause-fits g t c =
    let is = c.take_dead.ensures.finds c.args.self.now c.args.state.now (start_of c.args.origin) (sets_on c.loop-vertex.invariant c.advance_by_sets.new.flat.value c.advance_by_sets.ensures.advances) in
    onward IsStateOf c.take_dead.new.self c.ask.new.self c.loop-vertex.state c.ask.new.state c.ask.ensures.asked.kept c.ask.ensures.asked.given_back
    (onward IsStateOf c.args.self.now c.take_dead.new.self c.args.state.now c.loop-vertex.state is.finds.kept is.finds.given_back c.requires.fits)

pub flat_part-take_by_sets-requires-clause-sets : goal.flat_part-take_by_sets-requires-clause-sets
flat_part-take_by_sets-requires-clause-sets g t c =
    let is = c.take_dead.ensures.finds c.args.self.now c.args.state.now (start_of c.args.origin) (sets_on c.loop-vertex.invariant c.advance_by_sets.new.flat.value c.advance_by_sets.ensures.advances) in
    onward_rules (λ x. HasSetsFor x c.take_dead.new.flat.value) c.take_dead.new.self c.ask.new.self c.ask.ensures.asked.kept (sets_now is)

pub flat_part-take_by_sets-requires-clause-next : goal.flat_part-take_by_sets-requires-clause-next
flat_part-take_by_sets-requires-clause-next g t c =
    onward_rules (λ x. IsToBeAsked x c.take_dead.new.flat.value c.in-Some.field-0.vertex c.in-Some.field-0.position) c.take_dead.new.self c.ask.new.self c.ask.ensures.asked.kept (c.take_dead.ensures.next c.if-not-take_dead.true)

pub flat_part-loop-vertex-preserved-then-not-take_dead : goal.flat_part-loop-vertex-preserved-then-not-take_dead
flat_part-loop-vertex-preserved-then-not-take_dead g t c =
    let is = c.take_dead.ensures.finds c.args.self.now c.args.state.now (start_of c.args.origin) (sets_on c.loop-vertex.invariant c.advance_by_sets.new.flat.value c.advance_by_sets.ensures.advances) in
    let next : IsToBeAsked c.take_dead.new.self.game c.take_dead.new.flat.value c.in-Some.field-0.vertex c.in-Some.field-0.position = c.take_dead.ensures.next c.if-not-take_dead.true in
    sets_more is _ _ next c.ask.ensures.asked c.take_by_sets.new.flat.value c.in-Ok.answer c.in-Ok.answer c.in-Ok.is c.in-Ok.ensures.valid c.take_by_sets.ensures.takes c.in-Ok.ensures.forced

pub flat_part-loop-vertex-preserved : goal.flat_part-loop-vertex-preserved
flat_part-loop-vertex-preserved g t c = c.take_dead.ensures.finds c.args.self.now c.args.state.now (start_of c.args.origin) (sets_on c.loop-vertex.invariant c.advance_by_sets.new.flat.value c.advance_by_sets.ensures.advances)

pub flat_part-loop-vertex-smaller-then-not-take_dead : goal.flat_part-loop-vertex-smaller-then-not-take_dead
flat_part-loop-vertex-smaller-then-not-take_dead g t c = omega (arith, c.advance_by_sets.ensures.advances.lighter, c.take_dead.ensures.lighter, c.take_by_sets.ensures.takes.lighter)

pub flat_part-loop-vertex-smaller : goal.flat_part-loop-vertex-smaller
flat_part-loop-vertex-smaller g t c =
    let less = c.take_dead.ensures.less c.if-not-take_dead.false in
    omega (arith, c.advance_by_sets.ensures.advances.lighter, less)

pub flat_part-lose_sets-requires-clause-sets : goal.flat_part-lose_sets-requires-clause-sets
flat_part-lose_sets-requires-clause-sets g t c =
    let is = c.take_dead.ensures.finds c.args.self.now c.args.state.now (start_of c.args.origin) (sets_on c.loop-vertex.invariant c.advance_by_sets.new.flat.value c.advance_by_sets.ensures.advances) in
    onward_rules (λ x. HasSetsFor x c.take_dead.new.flat.value) c.take_dead.new.self c.ask.new.self c.ask.ensures.asked.kept (sets_now is)

pub flat_part-lose_sets-requires-clause-one : goal.flat_part-lose_sets-requires-clause-one
flat_part-lose_sets-requires-clause-one g t c =
    let is = c.take_dead.ensures.finds c.args.self.now c.args.state.now (start_of c.args.origin) (sets_on c.loop-vertex.invariant c.advance_by_sets.new.flat.value c.advance_by_sets.ensures.advances) in
    let next : IsToBeAsked c.take_dead.new.self.game c.take_dead.new.flat.value c.in-Some.field-0.vertex c.in-Some.field-0.position = c.take_dead.ensures.next c.if-not-take_dead.true in
    sets_left is _ _ next c.ask.ensures.asked

pub flat_part-returns-in-Err-clause-asked : goal.flat_part-returns-in-Err-clause-asked
flat_part-returns-in-Err-clause-asked g t c =
    let is = c.take_dead.ensures.finds c.args.self.now c.args.state.now (start_of c.args.origin) (sets_on c.loop-vertex.invariant c.advance_by_sets.new.flat.value c.advance_by_sets.ensures.advances) in
    let next : IsToBeAsked c.take_dead.new.self.game c.take_dead.new.flat.value c.in-Some.field-0.vertex c.in-Some.field-0.position = c.take_dead.ensures.next c.if-not-take_dead.true in
    sets_lost is _ _ next c.ask.ensures.asked _ c.in-Err.over c.in-Err.is c.lose_sets.ensures.over c.lose_sets.new.self c.lose_sets.ensures.kept c.lose_sets.ensures.opened c.lose_sets.ensures.taken

pub flat_part-finish_by_sets-requires-clause-paths : goal.flat_part-finish_by_sets-requires-clause-paths
flat_part-finish_by_sets-requires-clause-paths g t c = onward_rules (λ x. ArePathsOf x c.args.paths.now) c.args.self.now c.loop-vertex.self c.loop-vertex.invariant.finds.kept c.requires.paths

pub flat_part-finish_by_sets-requires-clause-fits : goal.flat_part-finish_by_sets-requires-clause-fits
flat_part-finish_by_sets-requires-clause-fits g t c =
    onward IsStateOf c.args.self.now c.loop-vertex.self c.args.state.now c.loop-vertex.state c.loop-vertex.invariant.finds.kept c.loop-vertex.invariant.finds.given_back c.requires.fits

pub flat_part-finish_by_sets-requires-clause-sets : goal.flat_part-finish_by_sets-requires-clause-sets
flat_part-finish_by_sets-requires-clause-sets g t c = c.advance_by_sets.ensures.advances.sets

pub flat_part-finish_by_sets-requires-clause-whole : goal.flat_part-finish_by_sets-requires-clause-whole
flat_part-finish_by_sets-requires-clause-whole g t c = search rules

pub flat_part-finish_by_sets-requires-clause-one : goal.flat_part-finish_by_sets-requires-clause-one
flat_part-finish_by_sets-requires-clause-one g t c = finds_room c.loop-vertex.invariant.finds

pub flat_part-returns-in_err-ends-clause-asked : goal.flat_part-returns-in_err-ends-clause-asked
flat_part-returns-in_err-ends-clause-asked g t c =
    let is = sets_on c.loop-vertex.invariant c.advance_by_sets.new.flat.value c.advance_by_sets.ensures.advances in
    let r = c.from_residual-in_err-ends.result in
    finds_asked is.finds c.finish_by_sets.new.self c.finish_by_sets.ensures.kept c.finish_by_sets.ensures.opened r
    (not_memory r c.in_err-ends.field-0.0 Deep c.from_residual-in_err-ends.ensures.1 c.in_err-ends.ensures.memory memory_not_deep)
    (not_memory r c.in_err-ends.field-0.0 Wide c.from_residual-in_err-ends.ensures.1 c.in_err-ends.ensures.memory memory_not_wide)
    (sets_own is c.finish_by_sets.new.self c.finish_by_sets.ensures.kept c.finish_by_sets.ensures.opened _ _ c.finish_by_sets.ensures.taken)

pub flat_part-returns-clause-asked : goal.flat_part-returns-clause-asked
flat_part-returns-clause-asked g t c =
    let is = sets_on c.loop-vertex.invariant c.advance_by_sets.new.flat.value c.advance_by_sets.ensures.advances in
    finds_asked is.finds c.finish_by_sets.new.self c.finish_by_sets.ensures.kept c.finish_by_sets.ensures.opened _ (ok_not_err c.in_ok-ends.ends Deep) (ok_not_err c.in_ok-ends.ends Wide)
    (sets_own is c.finish_by_sets.new.self c.finish_by_sets.ensures.kept c.finish_by_sets.ensures.opened _ _ c.finish_by_sets.ensures.taken)

pub flat_part-returns-clause-found : goal.flat_part-returns-clause-found
flat_part-returns-clause-found g t c =
    let h = c.args.self.now in
    let s = c.args.state.now in
    let f : Start = start_of c.args.origin in
    let is = sets_on c.loop-vertex.invariant c.advance_by_sets.new.flat.value c.advance_by_sets.ensures.advances in
    let whole : IsWhole c.advance_by_sets.new.flat.value = search rules in
    let part = sets_part is c.finish_by_sets.new.pairs c.in_ok-ends.ends c.in_ok-ends.ensures.part in
    let ready = all_ready h.game is.finds.lawful s.state c.requires.fits f c.args.nested c.requires.nested c.finish_by_sets.new.pairs c.in_ok-ends.ends part in
    record {
      lawful = is.finds.lawful;
      reaches = record {
        enough = is.finds.enough;
        reached = part;
        within = positions_within h.game s.state c.requires.fits c.args.nested c.finish_by_sets.new.pairs ready;
        forced = sets_forced is whole c.finish_by_sets.new.self.opened c.finish_by_sets.ensures.opened;
      };
      ready = ready;
    }

-- ---- whether a word runs

pub word_runs-flat_part-requires : goal.word_runs-flat_part-requires
word_runs-flat_part-requires g t c κs within =
    let here : c.take_list-pairs.new.self ≡ c.args.self.now = c.take_list-pairs.ensures in
    let fits : IsStateOf c.take_list-pairs.new.self.game c.args.state.now.state = subst (λ (x : Searching). IsStateOf x.game c.args.state.now.state) (sym here) c.requires.fits in
    let nested : NestsFrom c.take_list-pairs.new.self.game.rules c.args.nested (start_of c.args.origin) = subst (λ (x : Searching). NestsFrom x.game.rules c.args.nested (start_of c.args.origin)) (sym here) c.requires.nested in
    let start : IsStart c.take_list-pairs.new.self.game.rules (start_of c.args.origin) = subst (λ (x : Searching). IsStart x.game.rules (start_of c.args.origin)) (sym here) (inside_start c.args.self.now.game.rules (start_of c.args.origin) c.requires.inside) in
    let paths = subst (λ (x : Searching). ArePathsOf x.game c.args.paths.now) (sym here) c.requires.paths in
    (search rules, (within, (paths, (fits, (nested, start)))))

pub word_runs-returns-in_err-ends-clause-asked : goal.word_runs-returns-in_err-ends-clause-asked
word_runs-returns-in_err-ends-clause-asked g t c =
    let first = asked_since c.take_list-pairs.ensures c.flat_part.ensures.asked in
    handed_on (as_pattern first c.args.modifiers) c.from_residual.result c.in_err-ends.field-0.0 c.in_err-ends.was c.from_residual.ensures.1

pub word_runs-returns-then-ends-clause-asked : goal.word_runs-returns-then-ends-clause-asked
word_runs-returns-then-ends-clause-asked g t c =
    let first = asked_since c.take_list-pairs.ensures c.flat_part.ensures.asked in
    asked_same (answered_on (as_pattern first c.args.modifiers) c.in_ok-ends.ends true c.in_ok-ends.was) c.keep_list.new.self c.keep_list.ensures

pub word_runs-returns-then-ends-clause-answer : goal.word_runs-returns-then-ends-clause-answer
word_runs-returns-then-ends-clause-answer g t c =
    let found = found_since c.take_list-pairs.ensures c.in_ok-ends.ensures.found in
    runs_here c.args.self.now.game found.lawful.numbered c.args.state.now.state (start_of c.args.origin) c.flat_part.new.pairs c.in_ok-ends.ends found.reaches.reached c.if-ends.true

pub word_runs-returns-then-ends-clause-forced : goal.word_runs-returns-then-ends-clause-forced
word_runs-returns-then-ends-clause-forced g t c = λ cut.
    let found = found_since c.take_list-pairs.ensures c.in_ok-ends.ensures.found in
    let h = c.args.self.now in
    let k = c.flat_part.new.self in
    let s = c.args.state.now in
    let l = c.flat_part.new.state in
    let f : Start = start_of c.args.origin in
    let pairs : List (ℕ × ℕ) = c.flat_part.new.pairs in
    let same : c.keep_list.new.self.opened ≡ k.opened = ap (λ (x : Searching). x.opened) c.keep_list.ensures in
    word_forced h.game found.lawful.numbered cut s.state f h.opened k.opened c.keep_list.new.self.opened c.args.modifiers h.modifiers
    (runs_at_end h.game found.lawful.numbered s.state f pairs c.in_ok-ends.ends found.reaches.reached c.if-ends.true)
    (omega (arith, same)) (found.reaches.forced cut c.args.modifiers)

pub word_runs-runs_after-requires : goal.word_runs-runs_after-requires
word_runs-runs_after-requires g t c κs within =
    let first = asked_since c.take_list-pairs.ensures c.flat_part.ensures.asked in
    let found = found_since c.take_list-pairs.ensures c.in_ok-ends.ensures.found in
    let h = c.args.self.now in
    let k = c.flat_part.new.self in
    let s = c.args.state.now in
    let l = c.flat_part.new.state in
    let f : Start = start_of c.args.origin in
    let pairs : List (ℕ × ℕ) = c.flat_part.new.pairs in
    let fits : IsStateOf k.game l.state = onward IsStateOf h k s l first.kept first.given_back c.requires.fits in
    let ready = onward (λ x u. All (IsReady x u c.args.nested) pairs) h k s l first.kept first.given_back found.ready in
    let inside = inside_pairs h k s l f pairs pairs c.in_ok-ends.ends first.kept first.given_back refl found.lawful c.requires.inside found.reaches.reached in
    let paths = onward_rules (λ x. ArePathsOf x c.args.paths.now) h k first.kept c.requires.paths in
    (search rules, (within, (paths, (fits, (found.reaches.enough, (ready, inside))))))

pub word_runs-returns-in_err-runs-clause-asked : goal.word_runs-returns-in_err-runs-clause-asked
word_runs-returns-in_err-runs-clause-asked g t c =
    let first = asked_since c.take_list-pairs.ensures c.flat_part.ensures.asked in
    let found = found_since c.take_list-pairs.ensures c.in_ok-ends.ensures.found in
    handed_on
    (asked_after first c.in_ok-ends.was found c.requires.inside c.if-ends.false c.runs_after.ensures.asked)
    c.from_residual-in_err-runs.result c.in_err-runs.field-0.0 c.in_err-runs.was c.from_residual-in_err-runs.ensures.1

pub word_runs-returns-clause-asked : goal.word_runs-returns-clause-asked
word_runs-returns-clause-asked g t c =
    let first = asked_since c.take_list-pairs.ensures c.flat_part.ensures.asked in
    let found = found_since c.take_list-pairs.ensures c.in_ok-ends.ensures.found in
    asked_same
    (answered_on
    (asked_after first c.in_ok-ends.was found c.requires.inside c.if-ends.false c.runs_after.ensures.asked)
    c.in_ok-runs.runs c.in_ok-runs.runs c.in_ok-runs.was)
    c.keep_list-2.new.self c.keep_list-2.ensures

pub word_runs-returns-clause-answer : goal.word_runs-returns-clause-answer
word_runs-returns-clause-answer g t c =
    let first = asked_since c.take_list-pairs.ensures c.flat_part.ensures.asked in
    let found = found_since c.take_list-pairs.ensures c.in_ok-ends.ensures.found in
    let h = c.args.self.now in
    let k = c.flat_part.new.self in
    let s = c.args.state.now in
    let l = c.flat_part.new.state in
    let f : Start = start_of c.args.origin in
    let pairs : List (ℕ × ℕ) = c.flat_part.new.pairs in
    let decides : IsTrue c.in_ok-runs.runs ↔ SomeRunsAfter h.game s.state pairs =
    before (λ x u. IsTrue c.in_ok-runs.runs ↔ SomeRunsAfter x u pairs) h k s l first.kept first.given_back c.in_ok-runs.ensures.answer in
    runs_there h.game found.lawful.numbered s.state f pairs c.in_ok-ends.ends c.in_ok-runs.runs found.reaches.reached c.if-ends.false decides

pub word_runs-returns-clause-forced : goal.word_runs-returns-clause-forced
word_runs-returns-clause-forced g t c = λ cut.
    let first = asked_since c.take_list-pairs.ensures c.flat_part.ensures.asked in
    let found = found_since c.take_list-pairs.ensures c.in_ok-ends.ensures.found in
    let h = c.args.self.now in
    let k = c.flat_part.new.self in
    let s = c.args.state.now in
    let l = c.flat_part.new.state in
    let f : Start = start_of c.args.origin in
    let pairs : List (ℕ × ℕ) = c.flat_part.new.pairs in
    let decides : IsTrue c.in_ok-runs.runs ↔ SomeRunsAfter h.game s.state pairs =
    before (λ x u. IsTrue c.in_ok-runs.runs ↔ SomeRunsAfter x u pairs) h k s l first.kept first.given_back c.in_ok-runs.ensures.answer in
    let last = c.runs_after.new.self.opened in
    let answer = runs_there h.game found.lawful.numbered s.state f pairs c.in_ok-ends.ends c.in_ok-runs.runs found.reaches.reached c.if-ends.false decides in
    let ran : RanAfter h.game s.state pairs c.in_ok-runs.runs k.opened last c.args.modifiers h.modifiers =
    search_before (λ y w. RanAfter y.game w pairs c.in_ok-runs.runs k.opened last c.args.modifiers y.modifiers) h k s l first.kept first.given_back c.in_ok-runs.ensures.forced in
    subst (λ (n : ℕ). CountsForced h.game cut pattern s.state f h.opened n c.args.modifiers h.modifiers) (sym (ap (λ (x : Searching). x.opened) c.keep_list-2.ensures))
    (asked_forced h.game found.lawful.numbered s.state f pairs c.in_ok-ends.ends c.in_ok-runs.runs h.opened k.opened last c.args.modifiers h.modifiers cut answer found.reaches.reached (found.reaches.forced cut c.args.modifiers) ran)

-- ---- whether one runs after modifiers

pub runs_after-loop-pair-init : goal.runs_after-loop-pair-init
runs_after-loop-pair-init g t c = record {
  done = [];
  whole = IsPermutation-refl c.args.pairs.now;
  tries = tries_none c.args.self.now c.args.state.now c.args.pairs.now c.args.modifiers;
}

pub runs_after-returns-then-modifiers-le1-clause-asked : goal.runs_after-returns-then-modifiers-le1-clause-asked
runs_after-returns-then-modifiers-le1-clause-asked g t c =
    let is = c.loop-pair.invariant in
    tries_deep is.tries c.loop-pair.pairs c.take_least.new.self c.in-Some.pair is.whole c.in-Some.ensures.permutation c.args.nested c.requires.ready c.if-modifiers-le1.true

pub runs_after-runs_after_one-requires : goal.runs_after-runs_after_one-requires
runs_after-runs_after_one-requires g t c κs within =
    let h = c.args.self.now in
    let k = c.loop-pair.self in
    let s = c.args.state.now in
    let l = c.loop-pair.state in
    let is = c.loop-pair.invariant in
    let q : ℕ × ℕ = c.in-Some.pair in
    let there = turn_there c.args.pairs.now is.done c.loop-pair.pairs c.take_least.new.self q is.whole c.in-Some.ensures.permutation in
    let fits : IsStateOf k.game l.state = onward IsStateOf h k s l is.tries.stays.kept is.tries.stays.given_back c.requires.fits in
    let room : 2 ≤ l.room = omega (arith, c.requires.room, is.tries.stays.room) in
    let some : 0 < c.args.modifiers = omega (arith, c.if-modifiers-le1.false) in
    let ready = onward (λ x u. IsReady x u c.args.nested q) h k s l is.tries.stays.kept is.tries.stays.given_back (All-contains (IsReady h.game s.state c.args.nested) c.args.pairs.now q c.requires.ready there) in
    let inside = onward (λ x u. StandsInPattern x.rules (after q.1)) h k s l is.tries.stays.kept is.tries.stays.given_back (All-contains (λ r. StandsInPattern h.game.rules (after r.1)) c.args.pairs.now q c.requires.inside there) in
    let paths = onward_rules (λ x. ArePathsOf x c.args.paths.now) h k is.tries.stays.kept c.requires.paths in
    (search rules, (within, (paths, (fits, (room, (ready, (inside, some)))))))

pub runs_after-returns-in_err-runs_after_one-clause-asked : goal.runs_after-returns-in_err-runs_after_one-clause-asked
runs_after-returns-in_err-runs_after_one-clause-asked g t c =
    let is = c.loop-pair.invariant in
    tries_failed is.tries c.loop-pair.pairs c.take_least.new.self c.in-Some.pair is.whole c.in-Some.ensures.permutation c.args.nested c.requires.ready (omega (arith, c.if-modifiers-le1.false)) c.runs_after_one.ensures.asked c.from_residual.result c.in_err-runs_after_one.field-0.0 c.in_err-runs_after_one.was c.from_residual.ensures.1

pub runs_after-returns-then-branch-clause-asked : goal.runs_after-returns-then-branch-clause-asked
runs_after-returns-then-branch-clause-asked g t c =
    let is = c.loop-pair.invariant in
    tries_yes is.tries c.loop-pair.pairs c.take_least.new.self c.in-Some.pair is.whole c.in-Some.ensures.permutation c.args.nested c.requires.ready (omega (arith, c.if-modifiers-le1.false)) c.runs_after_one.ensures.asked c.in_ok-runs_after_one.field-0 c.in_ok-runs_after_one.was true

pub runs_after-returns-then-branch-clause-answer : goal.runs_after-returns-then-branch-clause-answer
runs_after-returns-then-branch-clause-answer g t c =
    let h = c.args.self.now in
    let k = c.loop-pair.self in
    let s = c.args.state.now in
    let l = c.loop-pair.state in
    let is = c.loop-pair.invariant in
    let q : ℕ × ℕ = c.in-Some.pair in
    let there = turn_there c.args.pairs.now is.done c.loop-pair.pairs c.take_least.new.self q is.whole c.in-Some.ensures.permutation in
    let decides = before (λ x u. IsTrue c.in_ok-runs_after_one.field-0 ↔ RunsAfterPair x u q.0 q.1) h k s l is.tries.stays.kept is.tries.stays.given_back c.in_ok-runs_after_one.ensures.answer in
    turn_some h.game s.state c.args.pairs.now q c.in_ok-runs_after_one.field-0 there decides c.if-branch.true

pub runs_after-returns-then-branch-clause-forced : goal.runs_after-returns-then-branch-clause-forced
runs_after-returns-then-branch-clause-forced g t c =
    let is = c.loop-pair.invariant in
    ran_some c.args.self.now.game c.args.state.now.state c.args.pairs.now c.args.self.now.opened c.runs_after_one.new.self.opened c.args.modifiers c.args.self.now.modifiers
    (tries_grow is.tries c.loop-pair.pairs c.take_least.new.self c.in-Some.pair is.whole c.in-Some.ensures.permutation c.args.nested c.requires.ready (omega (arith, c.if-modifiers-le1.false)) c.runs_after_one.ensures.asked c.in_ok-runs_after_one.field-0 c.in_ok-runs_after_one.was c.in_ok-runs_after_one.ensures.forced)

pub runs_after-loop-pair-preserved : goal.runs_after-loop-pair-preserved
runs_after-loop-pair-preserved g t c =
    let is = c.loop-pair.invariant in
    record {
      done = is.done ++ c.in-Some.pair ∷ [];
      whole = turn_after c.args.pairs.now is.done c.loop-pair.pairs c.take_least.new.self c.in-Some.pair is.whole c.in-Some.ensures.permutation;
      tries = tries_more is.tries c.loop-pair.pairs c.take_least.new.self c.in-Some.pair is.whole c.in-Some.ensures.permutation c.args.nested c.requires.ready (omega (arith, c.if-modifiers-le1.false)) c.runs_after_one.ensures.asked c.in_ok-runs_after_one.field-0 c.in_ok-runs_after_one.was c.in_ok-runs_after_one.ensures.forced c.in_ok-runs_after_one.ensures.answer c.if-branch.false;
    }

pub runs_after-loop-pair-smaller : goal.runs_after-loop-pair-smaller
runs_after-loop-pair-smaller g t c = turn_fewer c.loop-pair.pairs c.take_least.new.self c.in-Some.pair c.in-Some.ensures.permutation

pub runs_after-returns-clause-asked : goal.runs_after-returns-clause-asked
runs_after-returns-clause-asked g t c = tries_end c.loop-pair.invariant.tries false

pub runs_after-returns-clause-answer : goal.runs_after-returns-clause-answer
runs_after-returns-clause-answer g t c =
    none_of_all c.args.self.now.game c.args.state.now.state c.args.pairs.now c.loop-pair.invariant.done (turn_end c.args.pairs.now c.loop-pair.invariant.done c.loop-pair.pairs c.loop-pair.invariant.whole c.in_default.ensures.none) c.loop-pair.invariant.tries.none

pub runs_after-returns-clause-forced : goal.runs_after-returns-clause-forced
runs_after-returns-clause-forced g t c =
    let is = c.loop-pair.invariant in
    let moves = turn_end c.args.pairs.now is.done c.loop-pair.pairs is.whole c.in_default.ensures.none in
    record {
      grows = is.tries.grows;
      forced = λ cut numbered _. ran_permuted c.args.self.now.game cut c.args.state.now.state c.args.pairs.now is.done c.args.self.now.opened c.loop-pair.self.opened c.args.modifiers c.args.self.now.modifiers moves (is.tries.forced cut numbered);
    }

pub runs_after_one-apply_at-requires-clause-vertex : goal.runs_after_one-apply_at-requires-clause-vertex
runs_after_one-apply_at-requires-clause-vertex g t c = let ready = rw (← c.pair.view_is) at c.requires.ready in ready.vertex

pub runs_after_one-apply_at-requires-clause-position : goal.runs_after_one-apply_at-requires-clause-position
runs_after_one-apply_at-requires-clause-position g t c = let ready = rw (← c.pair.view_is) at c.requires.ready in ready.position

pub runs_after_one-apply_at-requires-clause-modifies : goal.runs_after_one-apply_at-requires-clause-modifies
runs_after_one-apply_at-requires-clause-modifies g t c = let ready = rw (← c.pair.view_is) at c.requires.ready in ready.modifies

pub runs_after_one-undo_to-requires : goal.runs_after_one-undo_to-requires
runs_after_one-undo_to-requires g t c =
    mark_within c.args.state.now c.apply_at.new.state c.word_runs-runs.new.state c.mark-mark.result c.mark-mark.ensures c.apply_at.ensures.after c.word_runs-runs.ensures.asked.given_back

pub runs_after_one-word_runs-runs-requires : goal.runs_after_one-word_runs-runs-requires
runs_after_one-word_runs-runs-requires g t c κs within =
    let ready = rw (← c.pair.view_is) at c.requires.ready in
    let inside = rw (← c.pair.view_is) at c.requires.inside in
    (search rules, (within, (c.requires.paths, (c.apply_at.ensures.fits, (ready.nests, inside)))))

pub runs_after_one-returns-in_err-runs-clause-asked : goal.runs_after_one-returns-in_err-runs-clause-asked
runs_after_one-returns-in_err-runs-clause-asked g t c = rw (← c.pair.view_is) (λ later applies.
    let given = back c.args.state.now c.apply_at.new.state c.word_runs-runs.new.state c.undo_to.new.self c.mark-mark.result c.mark-mark.ensures c.apply_at.ensures.after c.word_runs-runs.ensures.asked.given_back c.undo_to.ensures.given_back in
    let there =
    asked_there c.word_runs-runs.ensures.asked c.args.state.now c.undo_to.new.self later (c.args.modifiers - 1) (c.apply_at.ensures.only later applies) refl given
    (given_room c.args.state.now c.apply_at.new.state c.word_runs-runs.new.state c.undo_to.new.self c.apply_at.ensures.capacity c.word_runs-runs.ensures.asked.given_back c.word_runs-runs.ensures.asked.room c.undo_to.ensures.capacity given) in
    handed_on there c.from_residual.result c.in_err-runs.field-0.0 c.in_err-runs.was c.from_residual.ensures.1)

pub runs_after_one-returns-clause-asked : goal.runs_after_one-returns-clause-asked
runs_after_one-returns-clause-asked g t c = rw (← c.pair.view_is) (λ later applies.
    let given = back c.args.state.now c.apply_at.new.state c.word_runs-runs.new.state c.undo_to.new.self c.mark-mark.result c.mark-mark.ensures c.apply_at.ensures.after c.word_runs-runs.ensures.asked.given_back c.undo_to.ensures.given_back in
    let there =
    asked_there c.word_runs-runs.ensures.asked c.args.state.now c.undo_to.new.self later (c.args.modifiers - 1) (c.apply_at.ensures.only later applies) refl given
    (given_room c.args.state.now c.apply_at.new.state c.word_runs-runs.new.state c.undo_to.new.self c.apply_at.ensures.capacity c.word_runs-runs.ensures.asked.given_back c.word_runs-runs.ensures.asked.room c.undo_to.ensures.capacity given) in
    answered_on there c.in_ok-runs.field-0 c.in_ok-runs.field-0 c.in_ok-runs.was)

pub runs_after_one-returns-clause-answer : goal.runs_after_one-returns-clause-answer
runs_after_one-returns-clause-answer g t c =
    let ready = rw (← c.pair.view_is) at c.requires.ready in
    rw (← c.pair.view_is) (runs_one c.args.self.now.game c.args.state.now.state c.apply_at.new.state.state c.args.nested c.pair.inside.vertex c.pair.inside.position c.in_ok-runs.field-0 ready c.apply_at.ensures.only c.in_ok-runs.ensures.answer)

pub runs_after_one-returns-clause-forced : goal.runs_after_one-returns-clause-forced
runs_after_one-returns-clause-forced g t c = rw (← c.pair.view_is) (λ cut later applies.
    subst (λ (u : AbstractState). CountsForced c.args.self.now.game cut pattern u (after c.pair.inside.position) c.args.self.now.opened c.word_runs-runs.new.self.opened (c.args.modifiers - 1) c.args.self.now.modifiers) (sym (c.apply_at.ensures.only later applies)) (c.in_ok-runs.ensures.forced cut))
