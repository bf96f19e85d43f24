-- Why a line is no question.
use Rattle.std.specs.Prelude.{◌≡◌, ◌≢◌, ℕ, ◌==◌, if◌then◌else◌, Bool, true, false, List, [], ◌∷◌, ◌++◌, codes}
use Rattle.std.specs.List.{list_any}
use Rattle.std.specs.Str.{bytes_eq}
use Rattle.rbg_questions.specs.declared.question_error.QuestionError.{QuestionError}
use Rattle.rbg_questions.specs.declared.question_error.QuestionError.TheVariants.{Empty, Return, Word, Form}

-- the words with which questions begin
abbrev pub question_words : List (List ℕ)
question_words =
    codes "moves" ∷ codes "make" ∷ codes "back" ∷ codes "heard" ∷ codes "place" ∷ codes "state" ∷ codes "key"
    ∷ codes "values" ∷ codes "board" ∷ codes "names" ∷ codes "shape" ∷ codes "random" ∷ codes "search" ∷ codes "sample"
    ∷ codes "pack" ∷ codes "unpack" ∷ codes "quit" ∷ []

-- whether a question begins with the word
abbrev pub is_question_word : List ℕ → Bool
is_question_word word = list_any (λ listed. bytes_eq listed word) question_words

-- the bytes before the first space
abbrev pub first_word : List ℕ → List ℕ
first_word [] = []
first_word (byte ∷ bytes) = if byte == 32 then [] else byte ∷ first_word bytes

-- The line ends with a carriage return.
pub record EndsInReturn (line : List ℕ) : Type 0 where
  pub front : List ℕ
  pub is : line ≡ front ++ 13 ∷ []

-- Why a line that is no question is none.
--   no_byte: it is empty.
--   returns: it ends with a carriage return, as lines of some systems do.
--   no_word: it begins with no word of a question.
--   no_form: it begins with one, and goes on otherwise.
pub data IsMisfit (line : List ℕ) : QuestionError → Type 0 where
  no_byte : line ≡ [] → IsMisfit line Empty
  returns : EndsInReturn line → IsMisfit line Return
  no_word : line ≢ [] → ¬ EndsInReturn line → is_question_word (first_word line) ≡ false → IsMisfit line Word
  no_form : ¬ EndsInReturn line → is_question_word (first_word line) ≡ true → IsMisfit line Form
