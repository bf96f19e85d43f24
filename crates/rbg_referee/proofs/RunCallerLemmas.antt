-- What callers need: facts of what is returned, and what the runs of commands are that write their answers by
-- `write_answer`.
use Rattle.std.proofs.Common.{◌<◌, ◌≤◌, ℕ, List, Option, Result, Ok, Err, length, arith, IfOk}
use Rattle.rbg_console.specs.declared.status.Status.{Status}
use Rattle.rbg_game.specs.Loading.{IsRefused}
use Rattle.rbg_game.specs.declared.error.LoadError.TheVariants.{Text}
use Rattle.rbg_macro.specs.TextLimits.{longest_text}
use Rattle.rbg_macro.specs.declared.text_error.TextError.TheVariants.{TooLong}
use Rattle.rbg_referee.specs.declared.answer.Answer.{Answer}
use Rattle.rbg_referee.specs.Runs.{IsRunOf, WritesAnswer}
use Rattle.rbg_referee.specs.Runs.IsRunOf.{answered, no_memory}

-- two facts of what is returned give a third
pub both : {X Y : Type 0} (r : Result X Y) (P Q R : X → Type 0) → ((x : X) → P x → Q x → R x) → IfOk r P → IfOk r Q → IfOk r R
both (Ok x) P Q R give p q = give x p q
both (Err y) P Q R give p q = tt

pub all_three : {X Y : Type 0} (r : Result X Y) (P Q R S : X → Type 0) → ((x : X) → P x → Q x → R x → S x) → IfOk r P → IfOk r Q → IfOk r R → IfOk r S
all_three (Ok x) P Q R S give p q s = give x p q s
all_three (Err y) P Q R S give p q s = tt

-- a text that is too long is refused
pub long_refused : (text : List ℕ) → longest_text < length text → IsRefused text (Text TooLong)
long_refused text above = record {
  fault = above;
  no_game = λ known game loads. let fits : length text ≤ longest_text = loads.describes.has.cut.fits in let no : ⊥ = omega (arith, fits, above) in no;
}

-- a right answer is written, or the line `memory`
pub run_of : {E : Type 0} (Answers : List ℕ → Status → Type 0) (held holds : Option (List ℕ)) (result : Result Answer E) (status : Status) → IfOk result (λ answer. Answers answer.text.items answer.status) → WritesAnswer result held holds status → IsRunOf Answers held holds status
run_of Answers held holds (Ok answer) status right written = answered answer.text.items answer.status right written
run_of Answers held holds (Err error) status right written = no_memory written
