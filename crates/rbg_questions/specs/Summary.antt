-- What is told of matches that were played by chance: sums, means and the lines of a text.
use Rattle.std.specs.Prelude.{ℕ, zero, suc, ◌*◌, ◌/◌, ◌%◌, List, [], ◌++◌, length, get_or, Option, Some, None, codes, decimal}
use Rattle.std.specs.List.{flat_map, sum_by}
use Rattle.rbg_wire.specs.Lines.{line_of}
use Rattle.rbg_questions.specs.Fields.{numbers_text}
use Rattle.rbg_questions.specs.Chance.{Counted}

-- how many of these matches are finished, and how many were stopped, where all of them have one ending
abbrev pub finished_of : Option (List ℕ) → (matches : ℕ) → ℕ
finished_of None matches = 0
finished_of (Some scores) matches = matches

abbrev pub stopped_of : Option (List ℕ) → (matches : ℕ) → ℕ
stopped_of None matches = matches
stopped_of (Some scores) matches = 0

-- what a player scores at an ending: nothing in a match that was stopped. The players are numbered from 0 here.
abbrev pub score_of : (player : ℕ) → Option (List ℕ) → ℕ
score_of player None = 0
score_of player (Some scores) = get_or scores player 0

-- how many matches were finished, and how many stopped
abbrev pub finished_in : List Counted → ℕ
finished_in = sum_by (λ counted. finished_of counted.scores counted.matches)

abbrev pub stopped_in : List Counted → ℕ
stopped_in = sum_by (λ counted. stopped_of counted.scores counted.matches)

-- how many moves the players made in all matches together
abbrev pub moves_of : List Counted → ℕ
moves_of = sum_by (λ counted. counted.moves)

-- what a player scored in all matches together
abbrev pub total_of : (player : ℕ) → List Counted → ℕ
total_of player = sum_by (λ counted. score_of player counted.scores * counted.matches)

-- hundredths, as a number with two digits after a point
abbrev pub hundredths_text : ℕ → List ℕ
hundredths_text n = decimal (n / 100) ++ codes "." ++ decimal (n % 100 / 10) ++ decimal (n % 10)

-- A total over so many matches: its mean in hundredths, of which the rest is cut off, or `-` where there is no match.
abbrev pub mean_text : (total finished : ℕ) → List ℕ
mean_text total zero = codes "-"
mean_text total (suc n) = hundredths_text (total * 100 / suc n)

-- the line of a player's mean score
abbrev pub mean_line : (name : List ℕ) → (total finished : ℕ) → List ℕ
mean_line name total finished = line_of (codes "mean " ++ name ++ codes " " ++ mean_text total finished)

-- the lines of the first players, so many of them
abbrev pub mean_lines : (names : List (List ℕ)) → List Counted → (many : ℕ) → List ℕ
mean_lines names counted zero = []
mean_lines names counted (suc n) =
    mean_lines names counted n ++ mean_line (get_or names n []) (total_of n counted) (finished_in counted)

-- the line of how many matches were finished with these scores
abbrev pub ended_line : Option (List ℕ) → (matches : ℕ) → List ℕ
ended_line None matches = []
ended_line (Some scores) matches = line_of (codes "ended " ++ decimal matches ++ numbers_text scores)

-- a head with a number after it
abbrev pub number_line : (head : List ℕ) → (number : ℕ) → List ℕ
number_line head number = line_of (head ++ decimal number)

-- What is told: how many matches there are, and moves in all of them; the mean score of each player over those that were
-- finished; how many were finished with each of the scores; and how many were stopped.
unfoldable pub summary_text : (names : List (List ℕ)) → (count : ℕ) → List Counted → List ℕ
summary_text names count counted =
    number_line (codes "matches ") count
    ++ number_line (codes "moves ") (moves_of counted)
    ++ mean_lines names counted (length names)
    ++ flat_map (λ one. ended_line one.scores one.matches) counted
    ++ number_line (codes "stopped ") (stopped_in counted)
