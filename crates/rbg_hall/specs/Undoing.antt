-- Taking back what an event has queued.
use Rattle.std.specs.Prelude.{ℕ, List, [], ◌∷◌, map, take, slice_set, slice_index_or}
use Rattle.std.specs.Global.{Vec}
use Rattle.rbg_hall.specs.declared.queues.QueueMark.{QueueMark}

-- What is queued for each line, and what was committed when the event at hand began.
pub record QueueState : Type 0 where
  pub queued : List (List ℕ)
  pub committed : List (List ℕ)

-- all that is queued is committed
abbrev pub at_rest : List (List ℕ) → QueueState
at_rest queues = record { queued = queues; committed = queues }

-- the queues, with the one of the mark cut back to what it was
abbrev pub cut_back : List (List ℕ) → QueueMark → List (List ℕ)
cut_back queues mark = slice_set queues mark.line (take mark.len (slice_index_or queues mark.line []))

-- the queues before these marks were made, one after the other
abbrev pub undone : List (List ℕ) → List QueueMark → List (List ℕ)
undone queues [] = queues
undone queues (mark ∷ marks) = cut_back (undone queues marks) mark

-- the bytes in these queues
abbrev pub bytes_in : List (Vec ℕ) → List (List ℕ)
bytes_in queues = map (λ queue. queue.items) queues
