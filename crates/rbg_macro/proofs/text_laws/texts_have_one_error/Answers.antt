use Rattle.rbg_macro.proofs.OneReading.{text_error_once}
use Rattle.rbg_macro.proofs.text_laws.texts_have_one_error.Goals as goal

pub returns : goal.returns
returns c = text_error_once
