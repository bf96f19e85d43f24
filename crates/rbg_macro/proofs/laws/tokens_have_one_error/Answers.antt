use Rattle.rbg_macro.proofs.OneFault.{error_once}
use Rattle.rbg_macro.proofs.laws.tokens_have_one_error.Goals as goal

pub returns : goal.returns
returns c = error_once
