-- Lines, taken one by one.
use Rattle.std.specs.Prelude.{◌≡◌, ℕ, ◌+◌, List, [], ◌∷◌, ◌++◌, length, All}
use Rattle.rbg_wire.specs.Bytes.{LacksByte}
use Rattle.rbg_wire.specs.Lines.{line_feed, lines_of}

-- the bytes begin with the line of this text, and the rest follows it
pub record IsFirstLine (bytes text rest : List ℕ) : Type 0 where
  pub parts : bytes ≡ text ++ line_feed ∷ rest
  pub whole : LacksByte line_feed text

-- The bytes begin with lines of these texts, and the rest follows them.
pub record BeginsWith (bytes : List ℕ) (texts : List (List ℕ)) (rest : List ℕ) : Type 0 where
  pub whole : All (LacksByte line_feed) texts
  pub parts : bytes ≡ lines_of texts ++ rest

-- The rest of a record is of the form so far: the record is over and nothing is left, or the next line has a form that
-- it may have.
pub data GoesOn (over : Type 0) (HasForm : List ℕ → Type 0) (rest : List ℕ) : Type 0 where
  nothing_left :
      over →
      rest ≡ [] →
      GoesOn over HasForm rest
  one_more : (text later : List ℕ) →
      IsFirstLine rest text later →
      HasForm text →
      GoesOn over HasForm rest

-- The lines before this one lead to a part of the record, and what follows them is not of the form that it may have
-- there. Lines are numbered from 1. The line is missing if the record ends too early.
pub record HasFormFault {Part : Type 0} (LeadThere : List (List ℕ) → Part → Type 0) (over : Part)
    (HasForm : Part → List ℕ → Type 0) (bytes : List ℕ) (line : ℕ) : Type 0 where
  pub texts : List (List ℕ)
  pub rest : List ℕ
  pub begins : BeginsWith bytes texts rest
  pub number : line ≡ length texts + 1
  pub part : Part
  pub leads : LeadThere texts part
  pub stops : ¬ GoesOn (part ≡ over) (HasForm part) rest

-- What is left of a record: these bytes, and the number of the line with which they begin. Lines are numbered from 1.
pub record Left : Type 0 where
  pub rest : List ℕ
  pub number : ℕ
