use Rattle.rbg_macro.proofs.OneReading.{tokens_once}
use Rattle.rbg_macro.proofs.text_laws.texts_have_one_reading.Goals as goal

pub returns : goal.returns
returns c = tokens_once
