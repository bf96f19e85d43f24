-- Two numbers follow the word, the first before the first space.
use Rattle.std.proofs.Common.{◌∙◌}
use Rattle.rbg_wire.proofs.FieldLemmas.{same_fields, with_rest}
use Rattle.rbg_wire.proofs.ReadsLemmas.{reads_found, reads_none}
use Rattle.rbg_record.proofs.Apart.{start_fields, one_start}
use Rattle.rbg_record.proofs.LineReading.{fields_of_start, spells_start}
use Rattle.rbg_record.proofs.heading_reader.read_start.Goals as goal

pub returns-in_err-fields : goal.returns-in_err-fields
returns-in_err-fields c = rw c.from_residual.ensures (reads_none (λ start h. c.in_err-fields.ensures.none _ (h.is ∙ start_fields start)))

pub returns-in_err-turn_ms : goal.returns-in_err-turn_ms
returns-in_err-turn_ms c =
    rw c.from_residual-in_err-turn_ms.ensures (reads_none (λ start h.
    c.in_err-turn_ms.ensures.none start.turn_ms _ (record { small = h.has.0; parts = fields_of_start _ _ start c.in_ok-fields.ensures.found h })))

pub returns-in_err-now : goal.returns-in_err-now
returns-in_err-now c =
    let turn = c.in_ok-turn_ms.ensures.found in
    rw c.from_residual-in_err-now.ensures (reads_none (λ start h.
    c.in_err-now.ensures.none start.now h.has.1
    (same_fields _ _ _ _ start.turn_ms turn.small h.has.0 turn.parts (fields_of_start _ _ start c.in_ok-fields.ensures.found h)).1))

pub returns : goal.returns
returns c =
    let turn = c.in_ok-turn_ms.ensures.found in
    let now = c.in_ok-now.ensures.found in
    reads_found (one_start c.args.line.now) (spells_start _ _ _ _ turn.small now.0 c.in_ok-fields.ensures.found (with_rest _ _ _ _ turn now.1))
