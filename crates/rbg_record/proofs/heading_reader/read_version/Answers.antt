-- Each version has its own text.
use Rattle.std.proofs.Common.{◌∙◌, sym}
use Rattle.rbg_wire.proofs.ByteLemmas.{same_bytes, other_bytes}
use Rattle.rbg_wire.proofs.ReadsLemmas.{reads_found, reads_none}
use Rattle.rbg_record.proofs.LineReading.{text_one, text_two, same_version, no_version}
use Rattle.rbg_record.proofs.heading_reader.read_version.Goals as goal

pub returns-then-eq : goal.returns-then-eq
returns-then-eq c = reads_found (same_version c.args.line.now) (same_bytes _ _ c.if-eq.ensures ∙ (c.as_slice.ensures ∙ sym text_one))

pub returns-then-eq-2 : goal.returns-then-eq-2
returns-then-eq-2 c = reads_found (same_version c.args.line.now) (same_bytes _ _ c.if-eq-2.ensures ∙ (c.as_slice-else-eq.ensures ∙ sym text_two))

pub returns-else-eq-2 : goal.returns-else-eq-2
returns-else-eq-2 c =
    reads_none (no_version _
    (λ same. other_bytes _ _ c.if-eq.ensures (same ∙ sym c.as_slice.ensures))
    (λ same. other_bytes _ _ c.if-eq-2.ensures (same ∙ sym c.as_slice-else-eq.ensures)))
