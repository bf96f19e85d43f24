-- What is added to an empty list is the whole text.
use Rattle.rbg_import.proofs.Changing.{whole_rewritten}
use Rattle.rbg_import.proofs.whole_text.rewritten.Goals as goal

pub returns : goal.returns
returns c = whole_rewritten _ _ _ c.new-output.ensures.items c.in_ok-push_rewritten.ensures
