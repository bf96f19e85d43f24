-- What a clock over a list has told.
use Rattle.std.specs.Prelude.{◌≡◌, ◌<◌, ◌-◌, ℕ, List, ◌++◌, length, take, replicate, slice_index_or}

-- the last of the moments; 0 if there is none
abbrev pub last_moment : List ℕ → ℕ
last_moment moments = slice_index_or moments (length moments - 1) 0

-- A clock over these moments has told so many of them, and then the last again so often.
pub record HasTold (moments : List ℕ) (told : ℕ) (so_far : List ℕ) : Type 0 where
  pub again : ℕ
  pub is : so_far ≡ take told moments ++ replicate again (last_moment moments)
  pub after_all : 0 < again → told ≡ length moments
