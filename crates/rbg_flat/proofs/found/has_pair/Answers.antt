use Rattle.std.proofs.Common.{ℕ, List, All, Contains, refl, subst}
use Rattle.std.proofs.lemmas.List.{take_all}
use Rattle.rbg_flat.proofs.Common.{pairs_of, pairs_in, Word}
use Rattle.rbg_flat.proofs.Having.{in_word, none_yet, in_none, none_there}
use Rattle.rbg_flat.proofs.found.has_pair.Goals as goal

abbrev none : Word
none = record { base = 0; position = 0; bits = 0 }

pub returns-then-word_has : goal.returns-then-word_has
returns-then-word_has c = (
  (λ _. in_word c.args.words.now c.loop-word.word-index none c.loop-word-test.true (c.args.vertex, c.args.position) (c.if-word_has.ensures.0 refl)),
  (λ _. refl),
)

pub loop-word-preserved : goal.loop-word-preserved
loop-word-preserved c =
    none_yet c.args.words.now c.loop-word.word-index none c.loop-word-test.true (c.args.vertex, c.args.position) c.if-word_has.ensures.1 c.loop-word.invariant

pub returns : goal.returns
returns c =
    let words : List Word = c.args.words.now in
    let q : ℕ × ℕ = (c.args.vertex, c.args.position) in
    none_there (Contains (pairs_in words) q)
    (in_none words q (subst (All (λ (w : Word). ¬ Contains (pairs_of w) q)) (take_all c.loop-word.word-index words c.loop-word-test.false) c.loop-word.invariant))
