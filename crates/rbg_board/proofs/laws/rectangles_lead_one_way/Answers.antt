-- The law is a lemma of EdgeLaws.
use Rattle.rbg_board.proofs.EdgeLaws as laws
use Rattle.rbg_board.proofs.laws.rectangles_lead_one_way.Goals as goal

pub returns : goal.returns
returns c = laws.rectangles_lead_one_way
