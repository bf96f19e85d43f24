-- The numbers of results, as the header has them.
use Rattle.std.specs.Prelude.{◌≡◌, ℕ}
use Rattle.rbg_questions.specs.declared.question_error.QuestionError.{QuestionError}
use Rattle.rbg_questions.specs.declared.question_error.QuestionError.TheVariants as refusals
use Rattle.rbg_game.specs.declared.error.LoadError.{LoadError}
use Rattle.rbg_game.specs.declared.error.LoadError.TheVariants as errors

abbrev pub ok : ℕ
ok = 0

abbrev pub empty : ℕ
empty = 1

abbrev pub memory : ℕ
memory = 2

abbrev pub illegal : ℕ
illegal = 5

abbrev pub start : ℕ
start = 6

abbrev pub small : ℕ
small = 7

abbrev pub range : ℕ
range = 8

abbrev pub no_place : ℕ
no_place = 9

-- the number of a refusal
abbrev pub number_of : QuestionError → ℕ
number_of refusals.Long = range
number_of refusals.Empty = range
number_of refusals.Return = range
number_of refusals.Word = range
number_of refusals.Form = range
number_of refusals.Illegal = illegal
number_of refusals.Start = start
number_of refusals.NoPlace = no_place
number_of refusals.Over = 3
number_of refusals.Keeper = 4
number_of refusals.Memory = memory

-- the number of the layer that refuses a description
abbrev pub layer_of : LoadError → ℕ
layer_of (errors.Text cause) = 16
layer_of (errors.Macro cause) = 17
layer_of (errors.Syntax cause) = 18
layer_of (errors.Game cause) = 19

-- The number is that of a refusal of which this holds.
pub record Refuses (P : QuestionError → Type 0) (result : ℕ) : Type 0 where
  pub refusal : QuestionError
  pub why : P refusal
  pub is : result ≡ number_of refusal
