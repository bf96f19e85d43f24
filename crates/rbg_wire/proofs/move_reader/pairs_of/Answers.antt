-- Each pair is one more of those that were read.
use Rattle.rbg_base.proofs.Common.{◌∙◌, sym, ap, subst, rules, Err, err_from_is_err_and}
use Rattle.rbg_wire.specs.Reading.{ArePairWords}
use Rattle.rbg_wire.proofs.PairLemmas.{HasRead-first, HasRead-push, HasRead-full, HasRead-spelled, HasRead-too_many, HasRead-none, reads_nothing, one_spelled, words_from_spelled}
use Rattle.rbg_wire.proofs.WordLemmas.{some_word}
use Rattle.rbg_wire.proofs.move_reader.pairs_of.Goals as goal

pub returns-in_err-first : goal.returns-in_err-first
returns-in_err-first c =
    let p = err_from_is_err_and c.from_residual.result c.from_residual.ensures.1 in
    let none = c.in_err-first.ensures.none in
    reads_nothing _ (one_spelled _) _ (p.1 ∙ ap Err (p.2 ∙ none.0))
    (λ pairs spelled. none.1 pairs (subst (λ words. ArePairWords words pairs) (sym c.of-words.ensures) (words_from_spelled _ pairs spelled)))

pub returns-in_default : goal.returns-in_default
returns-in_default c =
    let end = rw c.in_default.is at c.in_ok-first.ensures.end in
    λ pairs spelled. some_word c.args.text.now (sym c.of-words.ensures ∙ end)

pub loop-pair-init : goal.loop-pair-init
loop-pair-init c =
    let found = rw c.in-Some.is at c.in_ok-first.ensures.found in
    rw c.new-pairs.ensures (HasRead-first _ _ _ found.0 (sym c.of-words.ensures ∙ found.1))

pub returns-in_err-pair : goal.returns-in_err-pair
returns-in_err-pair c =
    let p = err_from_is_err_and c.from_residual-in_err-pair.result c.from_residual-in_err-pair.ensures.1 in
    let none = c.in_err-pair.ensures.none in
    reads_nothing _ (one_spelled _) _ (p.1 ∙ ap Err (p.2 ∙ none.0)) (HasRead-none _ _ _ _ c.loop-pair.invariant none.1)

pub loop-pair-preserved-then-is_full : goal.loop-pair-preserved-then-is_full
loop-pair-preserved-then-is_full c =
    let found = rw c.in-Some-2.is at c.in_ok-pair.ensures.found in
    HasRead-full _ _ _ _ _ _ c.loop-pair.invariant (search rules) found.0 found.1

pub loop-pair-preserved : goal.loop-pair-preserved
loop-pair-preserved c =
    let found = rw c.in-Some-2.is at c.in_ok-pair.ensures.found in
    rw c.push.ensures (HasRead-push _ _ _ _ _ _ c.loop-pair.invariant (search rules) found.0 found.1)

pub returns-then-too_many : goal.returns-then-too_many
returns-then-too_many c =
    let end = rw c.in_default-2.is at c.in_ok-pair.ensures.end in
    let read = rw (c.if-too_many.true, end) at c.loop-pair.invariant in
    HasRead-too_many _ _ read

pub returns : goal.returns
returns c =
    let end = rw c.in_default-2.is at c.in_ok-pair.ensures.end in
    let read = rw (c.if-too_many.false, end) at c.loop-pair.invariant in
    HasRead-spelled _ _ read
