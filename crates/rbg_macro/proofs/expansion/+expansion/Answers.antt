-- A joined list is read token by token.
use Rattle.rbg_base.proofs.Common.{◌+◌, length, map, arith, sym, refl, ◌∙◌, take_rest, err_from_is_err_and, IfErr-weaker, on_ok_weaker}
use Rattle.rbg_macro.proofs.Common.{FailsReading, UnlessMemory, read_lexeme}
use Rattle.rbg_macro.specs.internal.ExpandedTokens.{FailsJoined, reading}
use Rattle.rbg_macro.proofs.Exits.{unless_weaker}
use Rattle.rbg_macro.proofs.JoinedLists.{joined_already}
use Rattle.rbg_macro.proofs.Marks.{lexemes_of_words, marks_of_words}
use Rattle.rbg_macro.proofs.Reading.{counted_all, nothing_read, token_kept, call_read, call_fails, token_too_many, all_read}
use Rattle.rbg_macro.proofs.expansion.+expansion.Goals as goal

pub read_joined-loop-at-init : goal.read_joined-loop-at-init
read_joined-loop-at-init t c = nothing_read c.args.macros.now c.args.level c.args.list.now c.args.expanded.now c.requires.within

pub read_joined-returns-in_err-keep-in-None-clause-err :
    goal.read_joined-returns-in_err-keep-in-None-clause-err
read_joined-returns-in_err-keep-in-None-clause-err t c =
    let p = err_from_is_err_and c.from_residual-in_err-keep-in-None.result c.from_residual-in_err-keep-in-None.ensures.1 in
    let met = rw c.in-None.is at c.in_ok-body_of_call.ensures.ok in
    rw (p.1, p.2) (unless_weaker _ (FailsReading c.args.macros.now c.args.level c.args.expanded.now.read (length c.args.expanded.now.kept) (map read_lexeme c.args.list.now))
    (λ f many. token_too_many c.args.macros.now c.args.level c.args.list.now _ c.loop-at.at _ c.args.expanded.now c.loop-at.expanded f c.loop-at.invariant c.loop-at-test.true
    (take_rest c.args.list.now (c.loop-at.at + 1)) met many)
    c.in_err-keep-in-None.field-0.0 c.in_err-keep-in-None.ensures.err)

pub read_joined-loop-at-preserved-in-None : goal.read_joined-loop-at-preserved-in-None
read_joined-loop-at-preserved-in-None t c =
    let met = rw c.in-None.is at c.in_ok-body_of_call.ensures.ok in
    token_kept c.args.macros.now c.args.level c.args.list.now _ c.loop-at.at _ c.args.expanded.now c.loop-at.expanded c.keep.new.self c.loop-at.invariant c.loop-at-test.true
    (take_rest c.args.list.now (c.loop-at.at + 1)) met c.in_ok-keep-in-None.ensures.ok c.in_ok-keep-in-None.ensures.fits

pub read_joined-returns-in_err-read_list-in-Some-clause-err :
    goal.read_joined-returns-in_err-read_list-in-Some-clause-err
read_joined-returns-in_err-read_list-in-Some-clause-err t c =
    let p = err_from_is_err_and c.from_residual-in_err-read_list-in-Some.result c.from_residual-in_err-read_list-in-Some.ensures.1 in
    let way = rw c.in-Some.is at c.in_ok-body_of_call.ensures.ok in
    let counted = counted_all c.in-Some.body (map read_lexeme c.in-Some.body.items) c.len.result c.loop-at.expanded c.count.new.self c.len.ensures refl c.count.ensures in
    rw (p.1, p.2) (unless_weaker _ (FailsReading c.args.macros.now c.args.level c.args.expanded.now.read (length c.args.expanded.now.kept) (map read_lexeme c.args.list.now))
    (λ f fails. call_fails c.args.macros.now c.args.level c.args.list.now _ c.loop-at.at c.in-Some.len _ (map read_lexeme c.in-Some.body.items) c.args.expanded.now c.loop-at.expanded
    c.count.new.self f c.loop-at.invariant c.loop-at-test.true (take_rest c.args.list.now (c.loop-at.at + 1)) way counted fails)
    c.in_err-read_list-in-Some.field-0.0 (rw c.deref.ensures.value at c.in_err-read_list-in-Some.ensures.err))

pub read_joined-loop-at-preserved : goal.read_joined-loop-at-preserved
read_joined-loop-at-preserved t c =
    let way = rw c.in-Some.is at c.in_ok-body_of_call.ensures.ok in
    let counted = counted_all c.in-Some.body (map read_lexeme c.in-Some.body.items) c.len.result c.loop-at.expanded c.count.new.self c.len.ensures refl c.count.ensures in
    call_read c.args.macros.now c.args.level c.args.list.now _ c.loop-at.at c.in-Some.len _ (map read_lexeme c.in-Some.body.items) c.args.expanded.now c.loop-at.expanded
    c.count.new.self c.read_list.new.expanded c.loop-at.invariant c.loop-at-test.true (take_rest c.args.list.now (c.loop-at.at + 1)) way counted (rw c.deref.ensures.value at c.in_ok-read_list-in-Some.ensures.ok)

pub read_joined-returns-clause-ok : goal.read_joined-returns-clause-ok
read_joined-returns-clause-ok t c =
    all_read c.args.macros.now c.args.level c.args.list.now c.loop-at.at c.args.expanded.now c.loop-at.expanded c.loop-at.invariant c.loop-at-test.false

pub read_list-returns-then-not-has_tilde-clause-ok : goal.read_list-returns-then-not-has_tilde-clause-ok
read_list-returns-then-not-has_tilde-clause-ok t c =
    on_ok_weaker c.read_joined.result
    (λ reads. record { js = _; joins = joined_already c.args.list.now (sym c.has_tilde.ensures ∙ c.if-not-has_tilde.true); reads = reads })
    c.read_joined.ensures.ok

pub read_list-returns-then-not-has_tilde-clause-err : goal.read_list-returns-then-not-has_tilde-clause-err
read_list-returns-then-not-has_tilde-clause-err t c =
    IfErr-weaker c.read_joined.result _ (UnlessMemory (FailsJoined c.args.macros.now c.args.level (map read_lexeme c.args.list.now) c.args.expanded.now))
    (λ e fails. unless_weaker _ (FailsJoined c.args.macros.now c.args.level (map read_lexeme c.args.list.now) c.args.expanded.now)
    (λ f h. reading _ (joined_already c.args.list.now (sym c.has_tilde.ensures ∙ c.if-not-has_tilde.true)) h) e fails)
    c.read_joined.ensures.err

pub read_list-read_joined-requires-2 : goal.read_list-read_joined-requires-2
read_list-read_joined-requires-2 t c = (
  omega arith,
  (
    c.requires.level,
    (
      c.requires.within,
      rw c.deref.ensures.value (marks_of_words c.args.macros.now c.in_ok-tokens.tokens.items c.in_ok-joined.joined c.in_ok-tokens.ensures c.in_ok-joined.ensures.marked),
    ),
  ),
)

pub read_list-returns-clause-ok : goal.read_list-returns-clause-ok
read_list-returns-clause-ok t c =
    on_ok_weaker c.read_joined-2.result
    (λ reads. record { js = _; joins = c.in_ok-joined.ensures.joined; reads = rw (← lexemes_of_words c.in_ok-tokens.tokens.items c.in_ok-joined.joined c.in_ok-tokens.ensures) reads })
    (rw c.deref.ensures.value at c.read_joined-2.ensures.ok)

pub read_list-returns-clause-err : goal.read_list-returns-clause-err
read_list-returns-clause-err t c =
    IfErr-weaker c.read_joined-2.result _ (UnlessMemory (FailsJoined c.args.macros.now c.args.level (map read_lexeme c.args.list.now) c.args.expanded.now))
    (λ e fails. unless_weaker _ (FailsJoined c.args.macros.now c.args.level (map read_lexeme c.args.list.now) c.args.expanded.now)
    (λ f h. reading _ c.in_ok-joined.ensures.joined (rw (← lexemes_of_words c.in_ok-tokens.tokens.items c.in_ok-joined.joined c.in_ok-tokens.ensures) h)) e fails)
    (rw c.deref.ensures.value at c.read_joined-2.ensures.err)
