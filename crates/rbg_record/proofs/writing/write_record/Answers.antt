-- The lines add up to the record of the match.
use Rattle.rbg_record.proofs.MatchRight.{two_right, writes_record}
use Rattle.rbg_record.proofs.WrittenLemmas.{two_spells}
use Rattle.rbg_record.proofs.writing.write_record.Goals as goal

pub returns : goal.returns
returns c =
    writes_record c.args.played.now _ _ (λ has.
    two_spells c.args.played.now c.players-players.ensures.lawful has c.config.result c.began.result _ _ _ _ _ c.config.ensures c.began.ensures c.new-out.ensures.items
    c.in_ok-write_version.ensures.ok c.in_ok-write_players.ensures c.in_ok-write_start.ensures.ok c.in_ok-write_entries.ensures)
    (two_right c.args.played.now)
