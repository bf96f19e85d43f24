-- The lines of tallies are those of what they count.
use Rattle.std.proofs.Common.{List, ℕ, subst, sym}
use Rattle.rbg_wire.specs.Writing.{Appends}
use Rattle.rbg_questions.proofs.Tallies.{counted_lines}
use Rattle.rbg_questions.proofs.answer_writer.put_counted.Goals as goal

pub returns : goal.returns
returns c =
    subst (λ (text : List ℕ). Appends c.args.out.now.items c.put_tallies.new.out.items text c.put_tallies.result) (sym (counted_lines c.args.tallies.now)) c.put_tallies.ensures
