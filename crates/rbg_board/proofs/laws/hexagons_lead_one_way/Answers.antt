-- The law is a lemma of EdgeLaws.
use Rattle.rbg_board.proofs.EdgeLaws as laws
use Rattle.rbg_board.proofs.laws.hexagons_lead_one_way.Goals as goal

pub returns : goal.returns
returns c = laws.hexagons_lead_one_way
