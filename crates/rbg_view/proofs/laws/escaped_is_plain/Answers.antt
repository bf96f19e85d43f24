use Rattle.rbg_view.proofs.Plain.{plain_text}
use Rattle.rbg_view.proofs.laws.escaped_is_plain.Goals as goal

pub returns : goal.returns
returns c = plain_text
