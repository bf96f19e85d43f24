-- What the exits of a reader return, from what a part of it returned.
use Rattle.std.proofs.Common.{◌≡◌, ℕ, Option, Result, Ok, Err, IsErrAnd}
use Rattle.rbg_grammar.specs.Reading.{Fault, misfit, too_deep}
use Rattle.rbg_syntax.specs.declared.error.Expectation.{Expectation}
use Rattle.rbg_syntax.specs.declared.error.ReadError.{ReadError}
use Rattle.rbg_syntax.specs.declared.error.ReadError.TheVariants as errors
use Rattle.rbg_syntax.specs.internal.Giving.{Fails, FailsWithin, Gives, GivesWithin}

-- what a failed reading means for a larger one
pub Fails-from : {A B : Type 0} (e : ReadError) (r : Result A Fault) (whole : Result B Fault) → ((f : Fault) → r ≡ Err f → whole ≡ Err f) → Fails e r → Fails e whole
Fails-from (errors.Misfit at what) r whole more h = more (misfit at) h
Fails-from (errors.TooDeep at) r whole more h = h
Fails-from errors.Memory r whole more h = tt

-- what the exit of a `?` on an error of this crate returns
pub Gives-from_err : {A B C : Type 0} (view : A → B) (r : Result A ReadError) (e : ReadError) (part : Result C Fault) (whole : Result B Fault)
    → IsErrAnd r (λ d. d ≡ e) → ((f : Fault) → part ≡ Err f → whole ≡ Err f) → Fails e part → Gives view r whole
Gives-from_err view (Ok x) e part whole is more h = absurd is
Gives-from_err view (Err d) e part whole is more h = rw is (Fails-from e part whole more h)

-- The same, if brackets may be nested too deep.
pub FailsWithin-from : {A B : Type 0} (e : ReadError) (r : Result A Fault) (whole : Result B Fault) → ((f : Fault) → r ≡ Err f → whole ≡ Err f) → FailsWithin e r → FailsWithin e whole
FailsWithin-from (errors.Misfit at what) r whole more h = more (misfit at) h
FailsWithin-from (errors.TooDeep at) r whole more h = more (too_deep at) h
FailsWithin-from errors.Memory r whole more h = tt

pub GivesWithin-from_err : {A B C : Type 0} (view : A → B) (r : Result A ReadError) (e : ReadError) (part : Result C Fault) (whole : Result B Fault)
    → IsErrAnd r (λ d. d ≡ e) → ((f : Fault) → part ≡ Err f → whole ≡ Err f) → FailsWithin e part → GivesWithin view r whole
GivesWithin-from_err view (Ok x) e part whole is more h = absurd is
GivesWithin-from_err view (Err d) e part whole is more h = rw is (FailsWithin-from e part whole more h)

-- an error that no brackets cause
pub FailsWithin-shallow : {A : Type 0} (e : ReadError) (r : Result A Fault) → Fails e r → FailsWithin e r
FailsWithin-shallow (errors.Misfit at what) r h = h
FailsWithin-shallow (errors.TooDeep at) r h = absurd h
FailsWithin-shallow errors.Memory r h = tt

pub FailsWithin-misfit : {A : Type 0} (e : ReadError) (at : Option ℕ) (what : Expectation) (r : Result A Fault) → e ≡ errors.Misfit at what → r ≡ Err (misfit at) → FailsWithin e r
FailsWithin-misfit e at what r same is = rw same is

pub GivesWithin-shallow : {A B : Type 0} (view : A → B) (r : Result A ReadError) (read : Result B Fault) → Gives view r read → GivesWithin view r read
GivesWithin-shallow view (Ok x) read h = h
GivesWithin-shallow view (Err e) read h = FailsWithin-shallow e read h
