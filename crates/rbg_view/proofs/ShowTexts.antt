-- Texts that end with what was written last.
use Rattle.rbg_base.proofs.Common.{List, ℕ, Result, OnOk, on_ok_weaker}
use Rattle.rbg_wire.specs.Writing.{Appends}
use Rattle.rbg_view.specs.Endings.{EndsWith}

pub ends_with : {E : Type 0} (old new text : List ℕ) (result : Result (Unit {0}) E) → Appends old new text result → OnOk result (EndsWith new text)
ends_with old new text result appends = on_ok_weaker result (λ is. record { front = old; is = is }) appends.written
