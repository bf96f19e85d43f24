-- The keys of parts that follow other parts.
use Rattle.std.proofs.Common.{◌≡◌, ℕ, ◌+◌, ◌<◌, List, [], ◌∷◌, ◌++◌, length, get_or, map, take, sym, ap, ◌∙◌, append_assoc}
use Rattle.rbg_rules.specs.Meaning.{AbstractArithmetic, Expression, arithmetic_of, changed, operated, operation_of}
use Rattle.rbg_rules.specs.declared.arithmetic.Operation.{Operation}
use Rattle.rbg_rules.proofs.Bridge.{operation_of_out}
use Rattle.rbg_position.specs.declared.key_mark.KeyMark.{KeyMark}
use Rattle.rbg_position.specs.internal.Marks.{Marks, rules_key}
use Rattle.rbg_position.proofs.Items.{fold_map_more}

-- the operations up to one, and that one
pub operations_more : (first : AbstractArithmetic) (os : List Operation) (i : ℕ) (o : Operation) → i < length os → o ≡ get_or os i o
    → changed first (map operation_of (take (i + 1) os)) ≡ operated o.operator (changed first (map operation_of (take i os))) (arithmetic_of o.operand)
operations_more first os i o within is =
    fold_map_more (λ (so_far : AbstractArithmetic) (change : AbstractArithmetic → AbstractArithmetic). change so_far) operation_of first os i o within is
    ∙ ap (λ (change : AbstractArithmetic → AbstractArithmetic). change (changed first (map operation_of (take i os)))) (operation_of_out o)

-- the key of the parts so far, with that of one more and the mark that joins them
pub part_more : (m : KeyMark) (join : Expression → Expression → Expression) → Marks m join → (before key middle new : List KeyMark) (so_far part : Expression)
    → key ≡ before ++ rules_key so_far → middle ≡ key ++ rules_key part → new ≡ middle ++ m ∷ [] → new ≡ before ++ rules_key (join so_far part)
part_more m join marks before key middle new so_far part is first second =
    second
    ∙ (ap (λ xs. xs ++ m ∷ []) (first ∙ (ap (λ xs. xs ++ rules_key part) is ∙ append_assoc before (rules_key so_far) (rules_key part)))
    ∙ (append_assoc before (rules_key so_far ++ rules_key part) (m ∷ []) ∙ ap (λ xs. before ++ xs) (sym (marks so_far part))))
