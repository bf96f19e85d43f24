-- The pairs that were found are those of the move.
use Rattle.std.proofs.Common.{ℕ, List, length, sym, ◌∙◌, subst, IfSome}
use Rattle.rbg_base.specs.Move.{IsMoveLength}
use Rattle.rbg_rules.specs.Meaning.{AbstractPlace, find_move}
use Rattle.rbg_moves.specs.Answers.{GivesUp}
use Rattle.rbg_moves.proofs.Asked.{finds_at, finds_no_other, finds_none, finds_other, gives_memory, gives_on}
use Rattle.rbg_moves.proofs.finding.find_move.Goals as goal

pub returns-in_err-lent : goal.returns-in_err-lent
returns-in_err-lent g c =
    finds_none c.from_residual.result _ c.from_residual.ensures.1 (gives_memory _ _ _ c.from_residual.result c.from_residual.ensures.1)

pub returns-in_err-pairs : goal.returns-in_err-pairs
returns-in_err-pairs g c = rw (← c.rules_of-rules.ensures)
    (finds_none c.from_residual-in_err-pairs.result _ c.from_residual-in_err-pairs.ensures.1
    (subst (λ (p : AbstractPlace). GivesUp c.rules_of-rules.result find_move p c.from_residual-in_err-pairs.result) c.in_ok-lent.ensures
    (gives_on c.find_pairs.result c.from_residual-in_err-pairs.result c.in_err-pairs.field-0.0 c.in_err-pairs.was c.from_residual-in_err-pairs.ensures.1 c.find_pairs.ensures.finds.given_up)))

pub returns-in_default : goal.returns-in_default
returns-in_default g c = rw (← c.rules_of-rules.ensures)
    (finds_at c.in_ok-lent.ensures (finds_no_other c.in_ok-pairs.field-0 c.in_default.is c.in_ok-pairs.ensures.finds))

pub move_of-requires : goal.move_of-requires
move_of-requires g c =
    let sized = subst (λ o. IfSome o (λ pairs. IsMoveLength (length pairs.items))) c.in-Some.is c.in_ok-pairs.ensures.finds.sized in
    subst (λ (ps : List (ℕ × ℕ)). IsMoveLength (length ps)) (sym c.as_slice.ensures.value) sized

pub returns : goal.returns
returns g c = rw (← c.rules_of-rules.ensures)
    (finds_at c.in_ok-lent.ensures (finds_other c.in_ok-pairs.field-0 c.in-Some.pairs c.move_of.result c.in-Some.is (c.move_of.ensures ∙ c.as_slice.ensures.value) c.in_ok-pairs.ensures.finds))
