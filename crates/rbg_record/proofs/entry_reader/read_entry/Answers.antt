-- A dash, an outcome or a move.
use Rattle.std.proofs.Common.{◌∙◌, sym}
use Rattle.rbg_wire.proofs.ByteLemmas.{same_bytes, other_bytes}
use Rattle.rbg_wire.proofs.ReadsLemmas.{reads_found, reads_last}
use Rattle.rbg_record.proofs.Apart.{one_entry}
use Rattle.rbg_record.proofs.LineReading.{spells_play, spells_end, no_entry}
use Rattle.rbg_record.proofs.entry_reader.read_entry.Goals as goal

pub returns-then-eq : goal.returns-then-eq
returns-then-eq c = reads_found (one_entry c.args.line.now) (spells_play _ (same_bytes _ _ c.if-eq.ensures ∙ c.as_slice.ensures))

pub returns-in-Ok : goal.returns-in-Ok
returns-in-Ok c = reads_found (one_entry c.args.line.now) (spells_end _ _ c.in-Ok.ensures.found)

pub returns : goal.returns
returns c =
    reads_last (one_entry c.args.line.now) _ c.move_in.ensures.found c.move_in.ensures.none (λ move.
    no_entry _ _ _ (λ same. other_bytes _ _ c.if-eq.ensures (same ∙ sym c.as_slice.ensures)) c.in_default.is c.read_outcome.ensures.only move)
