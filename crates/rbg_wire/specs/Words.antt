-- The words of a text, for the calls that read one.
use Rattle.std.specs.Prelude.{◌≡◌, ℕ, ◌<◌, ◌^◌, ◌==◌, List, [], ◌∷◌, ◌++◌, decimal}
use Rattle.std.specs.List.{slice_split}
use Rattle.std.specs.Option.{option_map_or}
use Rattle.rbg_wire.specs.declared.words.Words.{Words}

-- the byte of a space
abbrev pub space : ℕ
space = 32

-- the parts between the spaces, which may be empty: a text without a space is one word
abbrev pub words_of : List ℕ → List (List ℕ)
words_of text = slice_split (λ byte. byte == space) text

-- the words that were not returned yet
abbrev pub words_left : Words → List (List ℕ)
words_left words = option_map_or (λ text. words_of text.now) words.left []

-- the text is a number, a space, and this rest
pub record BeginsWithNumber (text : List ℕ) (number : ℕ) (rest : List ℕ) : Type 0 where
  pub small : number < 2 ^ 64
  pub parts : text ≡ decimal number ++ space ∷ rest
