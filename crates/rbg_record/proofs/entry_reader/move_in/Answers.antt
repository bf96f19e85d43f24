-- The player is before the first space, and the pairs are after it.
use Rattle.rbg_wire.proofs.FieldLemmas.{same_fields, with_rest}
use Rattle.rbg_record.proofs.LineReading.{move_fields, pairs_read, pairs_not_read, spells_move}
use Rattle.rbg_record.proofs.entry_reader.move_in.Goals as goal

pub returns-in_err-player-clause-none : goal.returns-in_err-player-clause-none
returns-in_err-player-clause-none c =
    rw c.from_residual.ensures (λ player pairs h. c.in_err-player.ensures.none player _ (record { small = h.has.0; parts = move_fields _ player pairs h }))

pub returns-in_err-pairs-clause-none : goal.returns-in_err-pairs-clause-none
returns-in_err-pairs-clause-none c =
    let found = c.in_ok-player.ensures.found in
    rw c.from_residual-in_err-pairs.ensures (λ player pairs h.
    pairs_not_read _ c.read_pairs.result pairs c.read_pairs.ensures.only c.in_err-pairs.ensures.value h.has.1 h.has.2
    (same_fields _ _ _ _ player found.small h.has.0 found.parts (move_fields _ player pairs h)).1)

pub returns-clause-found : goal.returns-clause-found
returns-clause-found c =
    let player = c.in_ok-player.ensures.found in
    let pairs = pairs_read _ _ _ c.read_pairs.ensures.found c.in_ok-pairs.ensures.value in
    spells_move _ _ _ player.small pairs.0.are pairs.1 (with_rest _ _ _ _ player pairs.0.is)
