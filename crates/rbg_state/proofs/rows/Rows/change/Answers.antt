use Rattle.rbg_state.proofs.RowLemmas.{bit_changed}
use Rattle.rbg_state.proofs.rows.Rows.change.Goals as goal

pub returns-then-stands-clause-changed : goal.returns-then-stands-clause-changed
returns-then-stands-clause-changed c =
    rw c.if-stands.true (bit_changed c.args.self.now.columns c.args.self.now.words.items c.set_bit.new.words.items c.args.piece c.args.vertex 1 c.in-Some.word c.in-Some.ensures.some c.in-Some.ensures.there c.set_bit.ensures)

pub returns-else-stands-clause-changed : goal.returns-else-stands-clause-changed
returns-else-stands-clause-changed c =
    rw c.if-stands.false (bit_changed c.args.self.now.columns c.args.self.now.words.items c.clear_bit.new.words.items c.args.piece c.args.vertex 0 c.in-Some.word c.in-Some.ensures.some c.in-Some.ensures.there c.clear_bit.ensures)
