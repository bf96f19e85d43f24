use Rattle.rbg_macro.proofs.ZeroBytes.{text_has_no_zero_byte}
use Rattle.rbg_macro.proofs.text_laws.texts_have_no_zero_byte.Goals as goal

pub returns : goal.returns
returns c = text_has_no_zero_byte
