-- Definitions are read part by part.
use Rattle.rbg_base.proofs.Common.{◌≡◌, Err, ◌+◌, ◌≤◌, length, map, arith, err_from_is_err_and, take_rest}
use Rattle.rbg_macro.proofs.Common.{defines_of, definitions_of}
use Rattle.rbg_macro.specs.Token.{lexeme_of}
use Rattle.rbg_macro.proofs.Defined.{first_is_hash, defined_after, faults_after}
use Rattle.rbg_macro.proofs.Exits.{unless_weaker}
use Rattle.rbg_macro.proofs.definition.read_definitions.Goals as goal

pub loop-at-init : goal.loop-at-init
loop-at-init c = rw c.new-definitions.ensures (first_is_hash c.args.tokens.now c.in_ok-check_begin.ensures.ok)

pub returns-in_err-define : goal.returns-in_err-define
returns-in_err-define c =
    let p = err_from_is_err_and c.from_residual-in_err-define.result c.from_residual-in_err-define.ensures.1 in
    let within : c.loop-at.at + 1 ≤ length c.args.tokens.now = omega arith in
    rw (p.1, p.2) (unless_weaker _ (λ f. definitions_of (map lexeme_of c.args.tokens.now) ≡ Err f)
    (λ f fault. faults_after c.args.tokens.now c.loop-at.at _ _ c.split_at.result.0.now c.split_at.result.1.now c.part_len-len.result
    c.first_at-end.result (defines_of c.loop-at.definitions) f c.loop-at.invariant c.loop-at-test.true
    (take_rest c.args.tokens.now (c.loop-at.at + 1)) c.part_len-len.ensures.len
    c.split_at.ensures.front c.split_at.ensures.back c.first_at-end.ensures fault)
    c.in_err-define.field-0.0 c.in_err-define.ensures.err)

pub loop-at-preserved : goal.loop-at-preserved
loop-at-preserved c =
    let within : c.loop-at.at + 1 ≤ length c.args.tokens.now = omega arith in
    defined_after c.args.tokens.now c.loop-at.at _ _ c.split_at.result.0.now c.split_at.result.1.now c.part_len-len.result c.first_at-end.result
    (defines_of c.loop-at.definitions) (defines_of c.define.new.definitions)
    c.loop-at.invariant c.loop-at-test.true (take_rest c.args.tokens.now (c.loop-at.at + 1))
    c.part_len-len.ensures.within c.part_len-len.ensures.len c.split_at.ensures.front c.split_at.ensures.back c.first_at-end.ensures
    c.in_ok-define.ensures.ok
