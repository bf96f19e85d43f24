use Rattle.rbg_macro.proofs.OneReading.{text_refused_for_memory}
use Rattle.rbg_macro.proofs.text_laws.texts_with_tokens_have_no_fault.Goals as goal

pub returns : goal.returns
returns c = text_refused_for_memory
