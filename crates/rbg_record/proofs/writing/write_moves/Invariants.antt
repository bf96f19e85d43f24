-- The lines so far are those of the moves so far.
use Rattle.std.proofs.Common.{◌≡◌, ◌++◌, take, flat_map}
use Rattle.rbg_wire.specs.Lines.{line_of}
use Rattle.rbg_record.specs.internal.Written.{made_text}
use Rattle.rbg_record.proofs.writing.write_moves.Given as goal

abbrev pub invariant-loop-made : goal.invariant-loop-made
invariant-loop-made l = l.out.items ≡ l.fn.out.items ++ flat_map (λ made. line_of (made_text l.version made)) (take l.made-index l.moves)
