-- The printed lines of a hall.
use Rattle.std.specs.Prelude.{ℕ, List, [], ◌∷◌, ◌++◌, length}
use Rattle.rbg_referee.specs.Printed.{AreMessages, seat_lines}

-- The messages of the first lines of a hall as they are printed, and then those of one more. Lines are numbered from 0.
pub data IsPrintedHall : (queues : List (List ℕ)) → (printed : List ℕ) → Type 0 where
  no_line : IsPrintedHall [] []
  one_more : (queues : List (List ℕ)) (bytes printed : List ℕ) (messages : List (List ℕ))
      → IsPrintedHall queues printed
      → AreMessages bytes messages
      → IsPrintedHall (queues ++ bytes ∷ []) (printed ++ seat_lines (length queues) messages)
