use Rattle.std.proofs.Common.{ℕ, Contains}
use Rattle.rbg_flat.specs.internal.Bits.{pairs_of}
use Rattle.rbg_flat.proofs.Spellings.{position_of}
use Rattle.rbg_flat.proofs.Having.{not_below, bit_there, there_bit, none_there}
use Rattle.rbg_flat.proofs.found.word_has.Goals as goal
use Rattle.rbg_flat.proofs.found.word_has.Goals.{then-word-position-via-then-word-position, then-word-position-via-else-word-position+then-vertex-word}

pub returns-then-word-position : goal.returns-then-word-position
returns-then-word-position c =
    let word = c.args.word in
    let q : ℕ × ℕ = (c.args.vertex, c.args.position) in
    elim c.then-word-position.branch [
      | then-word-position-via-then-word-position w ↦ none_there (Contains (pairs_of word) q) (λ there. w.if-word-position.true (position_of word q there))
      | then-word-position-via-else-word-position+then-vertex-word w ↦ none_there (Contains (pairs_of word) q) (not_below word q.0 q.1 w.if-vertex-word.true)
    ]

pub returns : goal.returns
returns c =
    let word = c.args.word in (
      (λ is. bit_there word c.args.vertex c.args.position c.if-word-position.false c.if-vertex-word.false (c.has_bit.ensures.0 is)),
      (λ there. c.has_bit.ensures.1 (there_bit word c.args.vertex c.args.position there)),
    )
