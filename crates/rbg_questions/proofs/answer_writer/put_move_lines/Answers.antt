-- The lines of moves that are lent are those of the moves.
use Rattle.std.proofs.Common.{List, ℕ, subst, sym}
use Rattle.rbg_wire.specs.Writing.{Appends}
use Rattle.rbg_wire.proofs.Common.{line_of, pairs_text}
use Rattle.rbg_questions.proofs.Sorted.{lines_shown}
use Rattle.rbg_questions.proofs.answer_writer.put_move_lines.Goals as goal

pub returns : goal.returns
returns c =
    subst (λ (text : List ℕ). Appends c.args.out.now.items c.put_lent_lines.new.out.items text c.put_lent_lines.result)
    (sym (lines_shown (λ m. m.now) (λ pairs. line_of (pairs_text pairs)) c.args.moves.now)) c.put_lent_lines.ensures
