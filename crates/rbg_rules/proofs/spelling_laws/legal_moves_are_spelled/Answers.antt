use Rattle.rbg_rules.proofs.LegalPairs.{legal_spelled}
use Rattle.rbg_rules.proofs.spelling_laws.legal_moves_are_spelled.Goals as goal

pub returns : goal.returns
returns c = legal_spelled
