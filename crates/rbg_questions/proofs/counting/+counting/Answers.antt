-- What is after each first move is added to the counts so far.
use Rattle.rbg_base.proofs.Common.{rules, ◌≡◌, ◌≢◌, ℕ, List, ◌+◌, ◌-◌, ◌<◌, ◌≤◌, ◌⊎◌, length, suc, take, refl, subst, sym, arith, Some, All, IfSome, slice_get_within, get_or_from_slice_get, IfNone, All-take}
use Rattle.rbg_rules.specs.Meaning.{AbstractPlace, IsLegal, IsPlaceOf}
use Rattle.rbg_moves.specs.Settling.{Settles}
use Rattle.rbg_questions.specs.Counting.{AreCountedAfter}
use Rattle.rbg_questions.specs.Places.{AreLegalMoves}
use Rattle.rbg_questions.specs.Counting.Sums.{none}
use Rattle.rbg_questions.specs.declared.extent.Extent.TheVariants.{Moves}
use Rattle.rbg_questions.specs.declared.error.CountError.TheVariants.{Unsettled}
use Rattle.rbg_questions.specs.Counting.{Sums}
use Rattle.rbg_questions.specs.Refusals.{IsNotCounted, most_counted}
use Rattle.rbg_questions.specs.Refusals.Meets.{here}
use Rattle.rbg_questions.specs.Refusals.AreTooMany.{sum}
use Rattle.rbg_questions.proofs.Refusing.{no_sum, different_take, beyond_first, unsettled_refused, refused_next, asked_of_some}
use Rattle.rbg_base.proofs.Errors.{passed_on}
use Rattle.rbg_questions.proofs.CountSums.{sums_more, sums_end, counted_from, all_at, all_going}
use Rattle.rbg_questions.proofs.counting.+counting.Goals as goal

pub count_after-loop-index-init : goal.count_after-loop-index-init
count_after-loop-index-init t c = none

pub count_after-lead-requires-clause-legal :
    goal.count_after-lead-requires-clause-legal
count_after-lead-requires-clause-legal t c =
    all_at (IsLegal c.args.game.now c.args.place.now) c.args.firsts.now c.loop-index.index c.get-pairs.result.now c.requires.legal c.get-pairs.ensures.pairs

pub count_after-count_from-requires : goal.count_after-count_from-requires
count_after-count_from-requires t c =
    (search rules, c.in_ok-lead.ensures.in_game)

pub count_after-loop-index-preserved : goal.count_after-loop-index-preserved
count_after-loop-index-preserved t c =
    let firsts = c.args.firsts.now in
    let k = c.loop-index.index in
    let pairs = c.get-pairs.result.now in
    let sum : c.join.result ≡ Some c.in_ok-counts.counts = c.in_ok-counts.ensures.ok_part in
    let sequences : c.in_ok-counts.counts.sequences ≡ c.loop-index.counts.sequences + c.in_ok-after.after.sequences = subst (λ o. IfSome o (λ s. s.sequences ≡ c.loop-index.counts.sequences + c.in_ok-after.after.sequences)) sum c.join.ensures.sequences in
    let ended : c.in_ok-counts.counts.ended ≡ c.loop-index.counts.ended + c.in_ok-after.after.ended = subst (λ o. IfSome o (λ s. s.ended ≡ c.loop-index.counts.ended + c.in_ok-after.after.ended)) sum c.join.ensures.ended in
    sums_more (AreCountedAfter c.args.game.now c.args.further.moves c.args.further.extent c.args.place.now) firsts k pairs c.loop-index.counts.sequences c.loop-index.counts.ended c.in_ok-after.after.sequences c.in_ok-after.after.ended c.in_ok-counts.counts.sequences c.in_ok-counts.counts.ended
    (slice_get_within firsts k pairs c.get-pairs.ensures.pairs) (sym (get_or_from_slice_get firsts k pairs pairs c.get-pairs.ensures.pairs)) c.loop-index.invariant
    (c.lead.new.to, c.in_ok-lead.ensures.to, c.in_ok-after.ensures.counted)
    sequences ended

pub count_after-returns-clause-counted : goal.count_after-returns-clause-counted
count_after-returns-clause-counted t c =
    let all : length c.args.firsts.now ≤ c.loop-index.index = omega (arith, c.loop-index-test.false, c.len-index-end.ensures.count) in
    sums_end (AreCountedAfter c.args.game.now c.args.further.moves c.args.further.extent c.args.place.now) c.args.firsts.now c.loop-index.index c.loop-index.counts.sequences c.loop-index.counts.ended all c.loop-index.invariant

pub count_after-returns-in_err-after-clause-refused : goal.count_after-returns-in_err-after-clause-refused
count_after-returns-in_err-after-clause-refused t c =
    passed_on c.from_residual-in_err-after.result c.in_err-after.field-0.0 _ c.from_residual-in_err-after.ensures.1
    (λ place settles. beyond_first _ _ _ _ _ _ _ c.in_err-after.field-0.0 settles c.in_ok-lead.ensures.to c.in_err-after.ensures.refused)

pub count_after-returns-in_err-counts-clause-refused : goal.count_after-returns-in_err-counts-clause-refused
count_after-returns-in_err-counts-clause-refused t c =
    let firsts = c.args.firsts.now in
    let k = c.loop-index.index in
    let pairs = c.get-pairs.result.now in
    let Has = AreCountedAfter c.args.game.now c.args.further.moves c.args.further.extent c.args.place.now in
    let sequences = c.loop-index.counts.sequences + c.in_ok-after.after.sequences in
    let ended = c.loop-index.counts.ended + c.in_ok-after.after.ended in
    let told = no_sum _ c.join.result c.in_err-counts.field-0.0 c.in_err-counts.ensures.value in
    let above : (most_counted < sequences) ⊎ (most_counted < ended) = subst (λ o. IfNone o ((most_counted < sequences) ⊎ (most_counted < ended))) told.1 c.join.ensures.above in
    let sums : Sums Has (take (k + 1) firsts) sequences ended =
    sums_more Has firsts k pairs c.loop-index.counts.sequences c.loop-index.counts.ended c.in_ok-after.after.sequences c.in_ok-after.after.ended sequences ended
    (slice_get_within firsts k pairs c.get-pairs.ensures.pairs) (sym (get_or_from_slice_get firsts k pairs pairs c.get-pairs.ensures.pairs)) c.loop-index.invariant
    (c.lead.new.to, c.in_ok-lead.ensures.to, c.in_ok-after.ensures.counted) refl refl in
    passed_on c.from_residual-in_err-counts.result c.in_err-counts.field-0.0 _ c.from_residual-in_err-counts.ensures.1
    (λ place settles. subst (λ e. IsNotCounted c.args.game.now (suc c.args.further.moves) c.args.further.extent place e) (sym told.0)
    (here tt (sum settles (All-take (IsLegal c.args.game.now c.args.place.now) (k + 1) firsts c.requires.legal) (different_take (λ (a b : List (ℕ × ℕ)). a ≢ b) (k + 1) firsts c.requires.different) sums above)))

pub count_from-count_after-requires : goal.count_from-count_after-requires
count_from-count_after-requires t c =
    let some : 0 < c.args.moves = omega (arith, c.if-moves-eq0.false) in
    let same = sym c.list_all.ensures.kept in
    (search rules, (subst (IsPlaceOf c.args.game.now) same c.settle.ensures.place, (subst (λ (p : AbstractPlace). All (IsLegal c.args.game.now p) c.in_ok-listed.listed) same c.in_ok-listed.ensures.all.legal, c.in_ok-listed.ensures.all.different)))

pub count_from-returns-clause-counted : goal.count_from-returns-clause-counted
count_from-returns-clause-counted t c =
    let some : 0 < c.args.moves = omega (arith, c.if-moves-eq0.false) in
    let same = sym c.list_all.ensures.kept in
    counted_from c.args.game.now c.args.moves c.args.extent c.args.place.now c.list_all.new.place c.in_ok-listed.listed c.in_ok-counts.counts.sequences c.in_ok-counts.counts.ended some
    (subst (Settles c.args.game.now c.args.place.now) same c.in_ok-settle.ensures.settles) (subst (λ (p : AbstractPlace). AreLegalMoves c.args.game.now p c.in_ok-listed.listed) same c.in_ok-listed.ensures.all) c.in_ok-counts.ensures.counted

pub count_from-returns-in_err-settle-clause-refused : goal.count_from-returns-in_err-settle-clause-refused
count_from-returns-in_err-settle-clause-refused t c =
    let some : 0 < c.args.moves = omega (arith, c.if-moves-eq0.false) in
    passed_on c.from_residual-in_err-settle.result (Unsettled c.in_err-settle.field-0.0) _ c.from_residual-in_err-settle.ensures.1
    (unsettled_refused _ _ _ _ _ c.in_err-settle.field-0.0 (asked_of_some _ _ some) c.in_err-settle.ensures.heavy c.in_err-settle.ensures.endless)

pub count_from-returns-in_err-listed-clause-refused : goal.count_from-returns-in_err-listed-clause-refused
count_from-returns-in_err-listed-clause-refused t c =
    let some : 0 < c.args.moves = omega (arith, c.if-moves-eq0.false) in
    passed_on c.from_residual-in_err-listed.result c.in_err-listed.field-0.0 _ c.from_residual-in_err-listed.ensures.1
    (refused_next _ _ _ _ c.in_err-listed.field-0.0 some (c.in_err-listed.ensures.refused (c.args.moves - 1) c.args.extent c.args.place.now c.in_ok-settle.ensures.settles))

pub count_from-returns-in_err-counts-clause-refused : goal.count_from-returns-in_err-counts-clause-refused
count_from-returns-in_err-counts-clause-refused t c =
    let some : 0 < c.args.moves = omega (arith, c.if-moves-eq0.false) in
    passed_on c.from_residual-in_err-counts.result c.in_err-counts.field-0.0 _ c.from_residual-in_err-counts.ensures.1
    (refused_next _ _ _ _ c.in_err-counts.field-0.0 some (c.in_err-counts.ensures.refused c.args.place.now (subst (Settles c.args.game.now c.args.place.now) (sym c.list_all.ensures.kept) c.in_ok-settle.ensures.settles)))

pub count_after-returns-then-not-asks_ends-clause-counted :
    goal.count_after-returns-then-not-asks_ends-clause-counted
count_after-returns-then-not-asks_ends-clause-counted t c =
    let game = c.args.game.now in
    let to = c.args.place.now in
    let firsts = c.args.firsts.now in
    let extent : c.args.further.extent ≡ Moves = c.asks_ends.ensures (search rules) in
    let going : Sums (AreCountedAfter game 0 Moves to) firsts (length firsts) 0 = all_going game to firsts c.requires.legal in
    let asked : Sums (AreCountedAfter game 0 c.args.further.extent to) firsts (length firsts) 0 = subst (λ e. Sums (AreCountedAfter game 0 e to) firsts (length firsts) 0) (sym extent) going in
    let all : Sums (AreCountedAfter game c.args.further.moves c.args.further.extent to) firsts (length firsts) 0 = subst (λ k. Sums (AreCountedAfter game k c.args.further.extent to) firsts (length firsts) 0) (sym c.if-further-eq0.true) asked in
    let Has = AreCountedAfter game c.args.further.moves c.args.further.extent to in
    subst (λ n. Sums Has firsts n c.going.result.ended) (sym c.going.ensures.sequences) (subst (λ n. Sums Has firsts (length firsts) n) (sym c.going.ensures.ended) all)
