-- The marks after those of the parts.
use Rattle.rbg_base.proofs.Common.{◌≡◌, List, [], ◌∷◌, ◌++◌, map, take, sym, ap, ◌∙◌, append_assoc, arith, on_ok_weaker, Box, Global}
use Rattle.rbg_rules.specs.Meaning.{arithmetic_of, changed, operation_of}
use Rattle.rbg_rules.specs.declared.arithmetic.Arithmetic.{Arithmetic}
use Rattle.rbg_rules.specs.declared.arithmetic.Arithmetic.TheVariants.{Negated as NegatedNode}
use Rattle.rbg_rules.proofs.Bridge.{arithmetic_of-Negated}
use Rattle.rbg_position.specs.declared.key_mark.KeyMark.{KeyMark}
use Rattle.rbg_position.specs.declared.key_mark.KeyMark.TheVariants.{Negated}
use Rattle.rbg_position.specs.internal.Marks.{arithmetic_key}
use Rattle.rbg_position.proofs.Parts.{operations_more}
use Rattle.rbg_position.proofs.action_keys.+arithmetic.Goals as goal

negated_key : (a : Arithmetic) (inner : Box Arithmetic Global) (old middle new : List KeyMark) → a ≡ NegatedNode inner →
    (b : Arithmetic) → b ≡ inner.value → middle ≡ old ++ arithmetic_key (arithmetic_of b) → new ≡ middle ++ (Negated ∷ []) → new ≡ old ++ arithmetic_key (arithmetic_of a)
negated_key a inner old middle new is b same first second =
    second
    ∙ (ap (λ xs. xs ++ (Negated ∷ [])) first
    ∙ (append_assoc old (arithmetic_key (arithmetic_of b)) ((Negated ∷ []))
    ∙ (ap (λ (x : Arithmetic). old ++ (arithmetic_key (arithmetic_of x) ++ (Negated ∷ []))) same
    ∙ (ap (λ e. old ++ arithmetic_key e) (sym (arithmetic_of-Negated inner))
    ∙ ap (λ (x : Arithmetic). old ++ arithmetic_key (arithmetic_of x)) (sym is)))))

pub put_arithmetic-returns-in_ok-put_arithmetic-in-Negated : goal.put_arithmetic-returns-in_ok-put_arithmetic-in-Negated
put_arithmetic-returns-in_ok-put_arithmetic-in-Negated t c =
    on_ok_weaker _ (negated_key _ c.in-Negated.inner _ _ _ c.in-Negated.is _ c.deref.ensures c.in_ok-put_arithmetic-in-Negated.ensures) c.put-in-Negated.ensures

pub put_operations-loop-operation-preserved : goal.put_operations-loop-operation-preserved
put_operations-loop-operation-preserved t c = λ before first is.
    c.in_ok-put_operator.ensures before (changed first (map operation_of (take c.loop-operation.operation-index c.args.operations.now))) (arithmetic_of c.operation-item.result.operand)
    (c.in_ok-put_arithmetic.ensures ∙ ap (λ xs. xs ++ arithmetic_key (arithmetic_of c.operation-item.result.operand)) (c.loop-operation.invariant before first is))
    ∙ ap (λ e. before ++ arithmetic_key e) (sym (operations_more first c.args.operations.now c.loop-operation.operation-index _ (omega arith) c.operation-item.is))
