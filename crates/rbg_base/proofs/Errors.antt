-- The error of a call that `?` passes on.
use Rattle.std.proofs.Common.{◌≡◌, Result, Ok, Err, sym, subst, IfErr, IsErrAnd}

pub passed_on : {T E : Type 0} (result : Result T E) (error : E) (P : E → Type 0) → IsErrAnd result (λ e. e ≡ error) → P error → IfErr result P
passed_on (Ok x) error P is p = absurd is
passed_on (Err e) error P is p = subst P (sym is) p
