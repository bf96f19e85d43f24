-- A byte that is passed on is written after the ones before it.
use Rattle.std.proofs.Common.{ℕ, ◌<◌, List, [], ◌∷◌, ◌++◌, length, take, drop, slice_index, ap, sym, ◌∙◌, arith, append-nil}
use Rattle.std.proofs.lemmas.List.{length-append}
use Rattle.rbg_network.specs.Passing.{passed}
use Rattle.rbg_network.proofs.PassedLemmas.{byte_at, passed_more, begun_more, written_after}
use Rattle.rbg_network.proofs.passing.Passing.pass.Goals as goal
use Rattle.rbg_network.proofs.passing.Passing.pass.Goals.{then-takes, else-takes}

pub loop-index-preserved : goal.loop-index-preserved
loop-index-preserved c =
    let begun : ℕ = c.args.self.now.begun in
    let old : List ℕ = c.args.buffer.now in
    let index : ℕ = c.loop-index.index in
    let kept : ℕ = c.loop-index.kept in
    let buffer : List ℕ = c.loop-index.buffer in
    let byte : ℕ = slice_index buffer index in
    let before : List ℕ = passed begun (take index old) in
    let so_far = c.loop-index.invariant in
    let below = c.loop-index-test.true in
    let within : index < length old = omega (arith, below, c.requires) in
    let here = byte_at before old buffer kept index so_far.kept so_far.after so_far.buffer in
    let begun_then = c.takes.ensures.begun ∙ begun_more begun c.loop-index.self.begun byte index old within here so_far.begun in
    elim c.if-takes.branch [
      | then-takes w ↦ (
          let more = passed_more begun c.loop-index.self.begun byte index old (byte ∷ []) within here so_far.begun (rw w.if-takes.true at c.takes.ensures.passed) in
          let long = ap length more in
          let one = length-append before (byte ∷ []) in
          record {
            kept = omega (arith, w.kept-is, so_far.kept, long, one);
            after = omega (arith, w.kept-is, so_far.after);
            buffer = w.buffer-is ∙ (written_after before old buffer kept byte so_far.kept (omega (arith, so_far.after, within)) so_far.buffer ∙ (ap (λ n. (before ++ byte ∷ []) ++ drop n old) (sym w.kept-is) ∙ ap (λ front. front ++ drop c.if-takes.kept old) (sym more)));
            begun = begun_then;
          })
      | else-takes w ↦ (
          let more = passed_more begun c.loop-index.self.begun byte index old [] within here so_far.begun (rw w.if-takes.false at c.takes.ensures.passed) ∙ append-nil before in
          let long = ap length more in
          record {
            kept = omega (arith, w.kept-is, so_far.kept, long);
            after = omega (arith, w.kept-is, so_far.after);
            buffer = w.buffer-is ∙ (so_far.buffer ∙ (ap (λ n. before ++ drop n old) (sym w.kept-is) ∙ ap (λ front. front ++ drop c.if-takes.kept old) (sym more)));
            begun = begun_then;
          })
    ]
