-- Laws of packed places and of questions.
use Rattle.std.specs.Prelude.{◌≡◌, ℕ, ◌+◌, ◌≤◌, List, length, true}
use Rattle.rbg_rules.specs.Meaning.{AbstractGame, AbstractPlace, IsGame, IsPlaceOf}
use Rattle.rbg_questions.specs.Limits.{longest_line}
use Rattle.rbg_questions.specs.Misfits.{first_word, is_question_word}
use Rattle.rbg_questions.specs.Packing.{packed_of, packed_text}
use Rattle.rbg_questions.specs.Questions.{SpellsQuestion}
use Rattle.rbg_questions.specs.declared.question.Question.{Question}

-- No two places of a game are packed alike. So what is packed and unpacked is the same place.
abbrev pub PackedApartLaw : Type 0
PackedApartLaw =
    (game : AbstractGame) (p q : AbstractPlace) →
    IsGame game →
    IsPlaceOf game p →
    IsPlaceOf game q →
    packed_of p ≡ packed_of q →
    p ≡ q

-- Each packed place fits a line, after the word `unpack` and a space.
abbrev pub PackedFitsLaw : Type 0
PackedFitsLaw = (game : AbstractGame) (p : AbstractPlace) → IsGame game → IsPlaceOf game p → 7 + length (packed_text p) ≤ longest_line

-- Each question begins with one of the words.
abbrev pub FirstWordLaw : Type 0
FirstWordLaw = (text : List ℕ) (question : Question) → SpellsQuestion text question → is_question_word (first_word text) ≡ true
