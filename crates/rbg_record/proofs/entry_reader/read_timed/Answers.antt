-- The moment is before the first space, and the entry is after it.
use Rattle.std.proofs.Common.{◌∙◌}
use Rattle.rbg_wire.proofs.FieldLemmas.{same_fields}
use Rattle.rbg_wire.proofs.ReadsLemmas.{reads_found, reads_none, nothing_read}
use Rattle.rbg_record.proofs.Apart.{timed_fields, one_timed}
use Rattle.rbg_record.proofs.LineReading.{spells_timed}
use Rattle.rbg_record.proofs.entry_reader.read_timed.Goals as goal

pub returns-in_err-at : goal.returns-in_err-at
returns-in_err-at c =
    rw c.from_residual.ensures (reads_none (λ timed h. c.in_err-at.ensures.none timed.at _ (record { small = h.has.0; parts = h.is ∙ timed_fields timed })))

pub returns-in_err-entry : goal.returns-in_err-entry
returns-in_err-entry c =
    let found = c.in_ok-at.ensures.found in
    rw c.from_residual-in_err-entry.ensures (reads_none (λ timed h.
    nothing_read c.in_err-entry.ensures timed.entry (record {
      has = h.has.1;
      is = (same_fields _ _ _ _ timed.at found.small h.has.0 found.parts (h.is ∙ timed_fields timed)).1;
    })))

pub returns : goal.returns
returns c = reads_found (one_timed c.args.line.now) (spells_timed _ _ _ c.in_ok-at.ensures.found c.in_ok-entry.ensures.found)
