-- Each word is looked at.
use Rattle.std.proofs.Common.{◌≡◌, ◌<◌, ℕ, List, length, get_or, Contains, sym, subst, arith}
use Rattle.std.proofs.lemmas.List.{take_all}
use Rattle.rbg_flat.proofs.Common.{IsBefore, IsLeast, first_of, first_at, pairs_in, Word}
use Rattle.rbg_flat.proofs.Spellings.{no_word, not_told, least_stays, least_moves, least_alone, least_of_all}
use Rattle.rbg_flat.proofs.found.least_word.Goals as goal
use Rattle.rbg_flat.proofs.found.least_word.Goals.{then-is_before, else-is_before}

-- The first pair of the word at a place.
at_place : (words : List Word) (k v : ℕ) → v ≡ (first_at words k).0 → first_at words k ≡ (v, (get_or words k no_word).position)
at_place words k v vertex = λ i. (sym vertex i, (get_or words k no_word).position)

pub loop-index-init : goal.loop-index-init
loop-index-init c =
    let words : List Word = c.args.words.now in
    let some : 0 < length words = let filled = c.if-words-eq0.false in omega (arith, filled) in
    record {
      below = some;
      there = at_place words 0 c.first_vertex-vertex.result c.first_vertex-vertex.ensures;
      least = λ w there. subst (λ (v : ℕ). ¬ IsBefore (first_of w) (v, (get_or words 0 no_word).position)) (sym c.first_vertex-vertex.ensures) (least_alone words no_word some w there);
    }

pub loop-index-preserved : goal.loop-index-preserved
loop-index-preserved c =
    let words : List Word = c.args.words.now in
    let k = c.loop-index.index in
    let is = c.loop-index.invariant in
    let under = c.loop-index-test.true in
    let q : ℕ × ℕ = (c.loop-index.vertex, c.loop-index.position) in
    let first = c.first_vertex-first.ensures in
    let here : ℕ × ℕ = first_of (get_or words k no_word) in
    elim c.if-is_before.branch [
      | then-is_before w ↦ rw (w.least-is, w.vertex-is, w.position-is)
          (record {
            below = under;
            there = at_place words k c.first_vertex-first.result first;
            least = λ v there. subst (λ (n : ℕ). ¬ IsBefore (first_of v) (n, (get_or words k no_word).position)) (sym first)
                (least_moves words k no_word q under (subst (λ (n : ℕ). IsBefore (n, (get_or words k no_word).position) q) first (c.is_before.ensures.0 w.if-is_before.true)) is.least v there);
          })
      | else-is_before w ↦ rw (w.least-is, w.vertex-is, w.position-is)
          (record {
            below = is.below;
            there = is.there;
            least = least_stays words k no_word q under (subst (λ (n : ℕ). ¬ IsBefore (n, (get_or words k no_word).position) q) first (not_told c.is_before.result _ c.is_before.ensures w.if-is_before.false)) is.least;
          })
    ]

pub returns-clause-least : goal.returns-clause-least
returns-clause-least c =
    let words : List Word = c.args.words.now in
    let is = c.loop-index.invariant in
    let q : ℕ × ℕ = (c.loop-index.vertex, c.loop-index.position) in
    let over = take_all c.loop-index.index words c.loop-index-test.false in
    subst (λ (r : ℕ × ℕ). IsLeast (pairs_in words) r) (sym is.there)
    (least_of_all words q c.requires (λ v inside. is.least v (subst (λ (ws : List Word). Contains ws v) (sym over) inside)))
