-- Cases that can't both be, and what is in an option.
use Rattle.std.proofs.Common.{◌≡◌, ℕ, Bool, true, false, Some, None}

pub not_both : {b : Bool} → b ≡ true → b ≡ false → ⊥
not_both e f = cc

pub no_some : {n : ℕ} → None ≡ Some n → ⊥
no_some e = cc

pub some_same : {m n : ℕ} → Some m ≡ Some n → n ≡ m
some_same e = cc
