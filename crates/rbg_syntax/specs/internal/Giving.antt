-- What a reader of the parser returns, by what is read of its tokens.
use Rattle.std.specs.Prelude.{◌≡◌, ℕ, List, [], ◌∷◌, Some, None, Result, Ok, Err}
use Rattle.rbg_macro.specs.Sections.{SectionTokens}
use Rattle.rbg_grammar.specs.Reading.{Fault, misfit, too_deep}
use Rattle.rbg_syntax.specs.declared.error.ReadError.{ReadError}
use Rattle.rbg_syntax.specs.declared.error.ReadError.TheVariants as faults
use Rattle.rbg_syntax.specs.declared.error.SyntaxError.{SyntaxError}
use Rattle.rbg_syntax.specs.declared.error.SyntaxError.TheVariants as errors

-- the error is that what is read doesn't fit, unless memory ran out
abbrev pub Fails : {B : Type 0} → ReadError → Result B Fault → Type 0
Fails (faults.Misfit at what) read = read ≡ Err (misfit at)
Fails (faults.TooDeep at) read = ⊥
Fails faults.Memory read = Unit {0}

-- what a function returned, seen by view, is what is read, unless memory ran out
abbrev pub Gives : {A B : Type 0} → (A → B) → Result A ReadError → Result B Fault → Type 0
Gives view (Ok x) read = read ≡ Ok (view x)
Gives view (Err e) read = Fails e read

-- The same, if the fault may also be a bracket that is one too many.
abbrev pub FailsWithin : {B : Type 0} → ReadError → Result B Fault → Type 0
FailsWithin (faults.Misfit at what) read = read ≡ Err (misfit at)
FailsWithin (faults.TooDeep at) read = read ≡ Err (too_deep at)
FailsWithin faults.Memory read = Unit {0}

abbrev pub GivesWithin : {A B : Type 0} → (A → B) → Result A ReadError → Result B Fault → Type 0
GivesWithin view (Ok x) read = read ≡ Ok (view x)
GivesWithin view (Err e) read = FailsWithin e read

-- the error of a reader, in a section whose `#` is at this place
abbrev pub error_in : ℕ → ReadError → SyntaxError
error_in start (faults.Misfit None what) = errors.Expected start what
error_in start (faults.Misfit (Some at) what) = errors.Expected at what
error_in start (faults.TooDeep at) = errors.TooDeep at
error_in start faults.Memory = errors.Memory

abbrev pub placed : {A : Type 0} → ℕ → Result A ReadError → Result A SyntaxError
placed start (Ok x) = Ok x
placed start (Err e) = Err (error_in start e)

-- what a reader returned of a section whose `#` is at this place, and was placed there, is what is read
abbrev pub GivesAt : {A B : Type 0} → ℕ → (A → B) → Result A SyntaxError → Result B Fault → Type 0
GivesAt {A} start view r read = (q : Result A ReadError) × (r ≡ placed start q) × Gives view q read

-- the place of the first of the sections
abbrev pub start_of : List SectionTokens → ℕ
start_of [] = 0
start_of (s ∷ ss) = s.at
