use Rattle.rbg_view.proofs.Changes.{lead_on}
use Rattle.rbg_view.proofs.laws.changes_lead_on.Goals as goal

pub returns : goal.returns
returns c = lead_on
