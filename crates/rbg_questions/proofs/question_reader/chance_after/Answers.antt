-- The seed and the number are what stands after the word, before the space and after it.
use Rattle.rbg_questions.proofs.Reading.{chance_parts, chance_spelled, no_chance_space, no_chance_word}
use Rattle.rbg_questions.proofs.question_reader.chance_after.Goals as goal

pub returns-clause-found : goal.returns-clause-found
returns-clause-found c =
    chance_spelled _ _ _ _ _ _ _ c.in_ok-fields.ensures.found c.in_ok-seed.ensures.found.0 c.in_ok-seed-2.ensures.found.1 c.in_ok-count.ensures.found.1 c.in_ok-seed-2.ensures.found.0 c.in_ok-count.ensures.found.0

pub returns-in_err-fields-clause-none : goal.returns-in_err-fields-clause-none
returns-in_err-fields-clause-none c = rw c.from_residual.ensures (no_chance_word _ _ c.in_err-fields.ensures.none)

pub returns-in_err-seed-clause-none : goal.returns-in_err-seed-clause-none
returns-in_err-seed-clause-none c =
    rw c.from_residual-in_err-seed.ensures (no_chance_space _ _ _ c.in_ok-fields.ensures.found c.in_err-seed.ensures.none)

pub returns-in_err-seed-2-clause-none : goal.returns-in_err-seed-2-clause-none
returns-in_err-seed-2-clause-none c =
    rw c.from_residual-in_err-seed-2.ensures (λ seed count h.
    let parts = chance_parts _ _ _ _ _ c.in_ok-fields.ensures.found c.in_ok-seed.ensures.found.0 c.in_ok-seed.ensures.found.1 seed count h in
    c.in_err-seed-2.ensures.none seed h.seeded parts.0)

pub returns-in_err-count-clause-none : goal.returns-in_err-count-clause-none
returns-in_err-count-clause-none c =
    rw c.from_residual-in_err-count.ensures (λ seed count h.
    let parts = chance_parts _ _ _ _ _ c.in_ok-fields.ensures.found c.in_ok-seed.ensures.found.0 c.in_ok-seed.ensures.found.1 seed count h in
    c.in_err-count.ensures.none count h.counted parts.1)
