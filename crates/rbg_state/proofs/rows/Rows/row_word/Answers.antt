use Rattle.rbg_base.proofs.Common.{ℕ, ◌+◌, ◌*◌, ◌<◌, List, length, sym, ◌∙◌, subst, get_or_read}
use Rattle.rbg_state.specs.Rows.{IsWordOf}
use Rattle.rbg_state.proofs.RowLemmas.{word_is}
use Rattle.rbg_state.proofs.rows.Rows.row_word.Goals as goal

pub returns-then-place-len : goal.returns-then-place-len
returns-then-place-len c = λ pieces rows wide.
    let columns : ℕ = c.args.self.now.columns in
    let words : List ℕ = c.args.self.now.words.items in
    let place : ℕ = c.args.piece * columns + c.args.column in
    let within : place < length words = subst (λ (n : ℕ). place < n) (c.len.ensures ∙ c.args.self.now.words.ok.0) c.if-place-len.true in
    let read = get_or_read words place c.index.result.now within c.index.ensures 0 in
    subst (IsWordOf pieces c.args.piece c.args.column) (sym read) (word_is pieces columns words c.args.piece c.args.column rows c.requires within)
