-- The lines add up to the record of the match.
use Rattle.rbg_record.proofs.MatchRight.{one_right, writes_record}
use Rattle.rbg_record.proofs.WrittenLemmas.{one_spells}
use Rattle.rbg_record.proofs.writing.write_record_1.Goals as goal

pub returns : goal.returns
returns c =
    writes_record c.args.played.now _ _ (λ has.
    one_spells c.args.played.now c.players-players.ensures.lawful has _ _ _ c.new-out.ensures.items c.in_ok-write_version.ensures.ok c.in_ok-write_entries.ensures)
    (one_right c.args.played.now)
