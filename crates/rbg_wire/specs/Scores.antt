-- How the scores of an outcome are stored: in an array of eight entries.
use Rattle.std.specs.Prelude.{◌≡◌, ℕ, ◌-◌, ◌≤◌, List, ◌++◌, length, take, drop, replicate}
use Rattle.rbg_wire.specs.Limits.{most_scores}
use Rattle.std.proofs.Common.{◌∙◌, ap, arith, take-append-drop, length-take-le}

-- the array of these scores, with zeros after them
abbrev pub padded_scores : List ℕ → List ℕ
padded_scores scores = scores ++ replicate (most_scores - length scores) 0

-- the first n entries of the array are scores, and the others are zeros
pub record HoldsScores (places : List ℕ) (n : ℕ) : Type 0 where
  pub fits : n ≤ most_scores
  pub room : length places ≡ most_scores
  pub blank : drop n places ≡ replicate (most_scores - n) 0

pub length-scores : (places : List ℕ) (n : ℕ) → HoldsScores places n → length (take n places) ≡ n
length-scores places n h = length-take-le n places (omega (arith, h.fits, h.room))

-- the array of the scores is the array
pub padded_scores-take : (places : List ℕ) (n : ℕ) → HoldsScores places n → padded_scores (take n places) ≡ places
padded_scores-take places n h =
    ap (λ k. take n places ++ replicate (most_scores - k) 0) (length-scores places n h)
    ∙ (rw (← h.blank) (take-append-drop n places))
