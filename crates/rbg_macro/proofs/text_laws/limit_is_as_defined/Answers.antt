-- The constant is its number.
use Rattle.std.proofs.Common.{refl}
use Rattle.rbg_macro.proofs.text_laws.limit_is_as_defined.Goals as goal

pub returns : goal.returns
returns c = refl
