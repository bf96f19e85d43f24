-- What replaces a call, and why a call is refused.
use Rattle.rbg_base.proofs.Common.{ℕ, ◌∷◌, map, arith, err_from_is_err_and}
use Rattle.rbg_macro.proofs.Common.{FailsReading, too_deep, read_lexeme}
use Rattle.rbg_macro.proofs.CallLemmas.{named_call}
use Rattle.rbg_macro.proofs.Exits.{unless_weaker}
use Rattle.rbg_macro.proofs.Failing.{fails_without_call, fails_too_long}
use Rattle.rbg_macro.proofs.expansion.body_of_call.Goals as goal

pub returns-in_err-len-clause-err : goal.returns-in_err-len-clause-err
returns-in_err-len-clause-err c =
    let p = err_from_is_err_and c.from_residual.result c.from_residual.ensures.1 in
    rw (p.1, p.2) (unless_weaker _ (λ f. (k : ℕ) → FailsReading c.args.macros.now c.args.level c.args.read k (read_lexeme c.args.site.name.now ∷ map read_lexeme c.args.site.beyond.now) f)
    (λ f is k. fails_without_call c.args.macros.now c.args.level c.args.read k (read_lexeme c.args.site.name.now) (map read_lexeme c.args.site.beyond.now) _ f c.in-Some.ensures.named is)
    c.in_err-len.field-0.0 c.in_err-len.ensures.err)

pub returns-then-level-ge-MAX_LEVEL-clause-err : goal.returns-then-level-ge-MAX_LEVEL-clause-err
returns-then-level-ge-MAX_LEVEL-clause-err c k =
    let meets = named_call c.args.macros.now (read_lexeme c.args.site.name.now) _ (map read_lexeme c.args.site.beyond.now) _ _ c.in-Some.ensures.named c.in_ok-len.ensures.ok in
    too_deep c.args.level c.args.read k (read_lexeme c.args.site.name.now) (map read_lexeme c.args.site.beyond.now) _ _ meets c.if-level-ge-MAX_LEVEL.true

pub returns-in_default-filled_len-clause-err : goal.returns-in_default-filled_len-clause-err
returns-in_default-filled_len-clause-err c k =
    let meets = named_call c.args.macros.now (read_lexeme c.args.site.name.now) _ (map read_lexeme c.args.site.beyond.now) _ _ c.in-Some.ensures.named c.in_ok-len.ensures.ok in
    fails_too_long c.args.macros.now c.args.level c.args.read k (read_lexeme c.args.site.name.now) (map read_lexeme c.args.site.beyond.now) _ _ meets c.if-level-ge-MAX_LEVEL.false
    c.requires.within (rw (← c.as_slice.ensures.value, ← c.deref.ensures) c.in_default-filled_len.ensures)

pub returns-clause-ok : goal.returns-clause-ok
returns-clause-ok c =
    let meets = named_call c.args.macros.now (read_lexeme c.args.site.name.now) _ (map read_lexeme c.args.site.beyond.now) _ _ c.in-Some.ensures.named c.in_ok-len.ensures.ok in
    record {
      meets = rw (c.in_ok-filled.ensures.tokens, c.as_slice.ensures.value, c.deref-2.ensures) meets;
      within = c.in_ok-len.ensures.ok.within;
      not_deep = c.if-level-ge-MAX_LEVEL.false;
      counted = rw (c.in_ok-filled.ensures.tokens, c.deref-2.ensures, ← c.deref.ensures) (omega (arith, c.in-Some-filled_len.ensures.0, c.in-Some-filled_len.ensures.1, c.requires.within));
    }
