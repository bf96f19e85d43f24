use Rattle.rbg_hosting.proofs.ArchiveLaws.{kept_records_are_printed}
use Rattle.rbg_hosting.proofs.laws.kept_records_are_printed.Goals as goal

pub returns : goal.returns
returns c = kept_records_are_printed
