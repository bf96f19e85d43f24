use Rattle.rbg_base.proofs.Common.{◌≡◌, ℕ, ◌+◌, ◌*◌, ◌<◌, List, length, sym, subst, ap, ◌∙◌, arith, get_or_read}
use Rattle.rbg_state.specs.Rows.{IsWordOf}
use Rattle.rbg_state.proofs.Counts.{column_more}
use Rattle.rbg_state.proofs.RowLemmas.{word_is}
use Rattle.rbg_state.proofs.rows.Rows.count.Goals as goal

pub loop-column-preserved : goal.loop-column-preserved
loop-column-preserved c =
    let columns : ℕ = c.args.self.now.columns in
    let words : List ℕ = c.args.self.now.words.items in
    let column : ℕ = c.loop-column.column in
    let near : column < columns = c.loop-column-test.true in
    let within : c.args.piece * columns + column < length words =
    let whole = c.if-start-self.false in
    let long : c.len.result ≡ length words = c.len.ensures ∙ c.args.self.now.words.ok.0 in
    omega (arith, near, whole, long) in
    let read = get_or_read words (c.args.piece * columns + column) c.index.result.now within c.index.ensures 0 in
    let ones = c.count_bits-many.ensures.ones in
    record {
      counted = λ pieces rows.
          let word : IsWordOf pieces c.args.piece column c.index.result.now = subst (IsWordOf pieces c.args.piece column) (sym read) (word_is pieces columns words c.args.piece column rows near within) in
          ap (λ (n : ℕ). c.loop-column.many + n) ones ∙ column_more c.args.piece pieces column c.index.result.now c.loop-column.many c.count_bits-many.ensures.fits word (c.loop-column.invariant.counted pieces rows);
      few =
          let before = c.loop-column.invariant.few in
          let few = c.count_bits-many.ensures.few in
          omega (arith, before, few);
    }
