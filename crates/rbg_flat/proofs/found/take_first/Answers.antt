-- The first pair of a word is taken.
use Rattle.rbg_base.proofs.Common.{◌≡◌, ℕ, ◌+◌, ◌∷◌, List, sym, ap, subst, ◌∙◌, Some, All-set, slice_get-get_or}
use Rattle.rbg_flat.proofs.Common.{pairs_of, IsFilled, Word}
use Rattle.rbg_flat.proofs.Spellings.{with_bits, pairs_first, pairs_none, taken_first, fewer_filled, word_gone}
use Rattle.rbg_flat.proofs.found.take_first.Goals as goal
use Rattle.rbg_flat.proofs.found.take_first.Goals.{then-bits-eq0, else-bits-eq0}

pub returns-clause-permutation : goal.returns-clause-permutation
returns-clause-permutation c =
    let words : List Word = c.args.words.now.items in
    let word : Word = c.index-word.result.now in
    let bit = c.lowest-bit.result in
    let bits = c.without-bits.result in
    let out = c.without-bits.ensures in
    let low = c.lowest-bit.ensures in
    let q : ℕ × ℕ = (word.base + bit, word.position) in
    let first : pairs_of word ≡ q ∷ pairs_of (with_bits word bits) = pairs_first word bits bit low.small low.set low.below out.gone out.others in
    elim c.if-bits-eq0.branch [
      | then-bits-eq0 w ↦ rw w.words-is
          (word_gone words w.drop_word.new.words.items word (with_bits word bits) q first (pairs_none (with_bits word bits) w.if-bits-eq0.true)
          (w.drop_word.ensures.rest word (slice_get-get_or words c.args.index word c.requires.index ∙ ap (λ (u : Word). Some u) (sym c.index-word.ensures))))
      | else-bits-eq0 w ↦ rw w.words-is (taken_first words c.args.index word (with_bits word bits) q c.requires.index (sym c.index-word.ensures) first)
    ]

pub returns-clause-filled : goal.returns-clause-filled
returns-clause-filled c =
    let words : List Word = c.args.words.now.items in
    let word : Word = c.index-word.result.now in
    let bits = c.without-bits.result in
    let filled : IsFilled word = subst IsFilled (sym c.index-word.ensures) (c.requires.filled c.args.index word c.requires.index) in
    elim c.if-bits-eq0.branch [
      | then-bits-eq0 w ↦ rw w.words-is (w.drop_word.ensures.filled c.requires.filled)
      | else-bits-eq0 w ↦ rw w.words-is (All-set IsFilled words c.args.index (with_bits word bits)
          (fewer_filled word bits filled w.if-bits-eq0.false (c.without-bits.ensures.less c.lowest-bit.ensures.set) c.without-bits.ensures.only) c.requires.filled)
    ]
