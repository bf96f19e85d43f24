-- Each turn writes one more name.
use Rattle.rbg_record.proofs.WrittenLemmas.{names_more}
use Rattle.rbg_record.proofs.players.write_names.Goals as goal

pub loop-index-preserved : goal.loop-index-preserved
loop-index-preserved g c = names_more _ c.loop-index.index _ _ _ _ _ c.name.ensures c.as_bytes.ensures.value c.loop-index.invariant c.in_ok-write_player.ensures.ok
