-- What is said of an answer or of an error.
use Rattle.std.proofs.Common.{◌≡◌, Result, Ok, Err, OnErr}

-- What holds anyway holds after an error.
pub on_err : {X E : Type 0} (r : Result X E) (P : Type 0) → P → OnErr r P
on_err (Ok x) P is = tt
on_err (Err e) P is = is

pub err_of : {X E : Type 0} (r : Result X E) (e : E) (P : Type 0) → r ≡ Err e → OnErr r P → P
err_of {X} {E} (Ok x) e P is p = absurd (no_error is)
  where
    no_error : Ok x ≡ Err e → ⊥
    no_error is = cc
err_of (Err y) e P is p = p
