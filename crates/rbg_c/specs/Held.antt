-- What a handle owns: nothing where it is empty, and else a state in a block of the C library's heap.
use Rattle.std.specs.Prelude.{Option, None, Some}
use base.Fml.{Fml, feq}
use denote.RawPtr.{Ptr, null_ptr}
use Rattle.libc.specs.Heap.{chunk}
use Rattle.std.specs.Box.Ownership.{box_owns}
use Rattle.rbg_c.specs.States.{AbstractState}
use Rattle.rbg_c.specs.contracts.state.State.{the_row}

-- The pointer is null where there is no state. Else it owns the state, and the right to free its block.
abbrev pub held : Ptr → Option AbstractState → Fml
held p None = feq Ptr p null_ptr
held p (Some state) = box_owns chunk the_row p state
