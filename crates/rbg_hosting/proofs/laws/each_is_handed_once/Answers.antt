use Rattle.rbg_hosting.proofs.ArchiveLaws.{each_is_handed_once}
use Rattle.rbg_hosting.proofs.laws.each_is_handed_once.Goals as goal

pub returns : goal.returns
returns c = each_is_handed_once
