-- Bytes of another form, of another size or of other numbers are those of no place.
use Rattle.std.proofs.Common.{ap, sym, ◌∙◌, arith, length}
use Rattle.rbg_board.specs.Graph.{Graph}
use Rattle.rbg_questions.proofs.Packed.{none_weaker, packed_first, packed_none, packed_size}
use Rattle.rbg_questions.proofs.packing.unpack.Goals as goal
use Rattle.rbg_questions.proofs.packing.unpack.Goals.{then-form-ne-FORM-via-then-form-ne-FORM, then-form-ne-FORM-via-else-form-ne-FORM+then-rest-count}

pub returns-then-form-ne-FORM-clause-none : goal.returns-then-form-ne-FORM-clause-none
returns-then-form-ne-FORM-clause-none c place fits is =
    let whole = c.in-Some.ensures.cases.0 in
    let vertices = ap (λ (b : Graph). length b.first) c.board.ensures.board in
    let size = packed_size _ c.board.ensures.lawful _ _ _ place fits whole is in
    elim c.then-form-ne-FORM.branch [
      | then-form-ne-FORM-via-then-form-ne-FORM w ↦ w.if-form-ne-FORM.true (packed_first _ _ _ place whole is)
      | then-form-ne-FORM-via-else-form-ne-FORM+then-rest-count w ↦ w.if-rest-count.true (omega (arith, size, vertices, c.len-count.ensures.count, w.variables.ensures.count))
    ]

pub returns-clause-none : goal.returns-clause-none
returns-clause-none c =
    let vertices = ap (λ (b : Graph). length b.first) c.board.ensures.board in
    none_weaker _ _ c.place_of.result
    (λ none. packed_none _ c.board.ensures.lawful _ _ _ _ _ _ _ c.in-Some.ensures.cases.0 c.split_at.ensures.by_index.0 c.in_ok-numbers.ensures.bytes c.in_ok-values.ensures.bytes c.in_ok-numbers.ensures.small c.in_ok-values.ensures.small
    (omega (arith, c.in_ok-numbers.ensures.many, vertices, c.len-count.ensures.count)) (c.in_ok-values.ensures.many ∙ c.variables-2.ensures.count)
    (λ place fits numbers values. none place fits (numbers ∙ sym c.deref.ensures.value) (values ∙ sym c.deref-2.ensures.value)))
    c.place_of.ensures.none
