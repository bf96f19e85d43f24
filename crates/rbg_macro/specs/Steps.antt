-- Steps of a definition that may fail.
use Rattle.std.specs.Prelude.{Result, Ok, Err}

-- the next step takes what the step before it gave; the first error is the error of the whole
infixl 10 ◌>>=◌
abbrev pub ◌>>=◌ : {A B E : Type 0} → Result A E → (A → Result B E) → Result B E
(Ok x) >>= f = f x
(Err e) >>= f = Err e
