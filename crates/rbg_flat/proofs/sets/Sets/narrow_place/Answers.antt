use Rattle.std.proofs.Common.{◌≡◌, ℕ, ◌*◌, ◌<◌, length, subst, arith}
use Rattle.rbg_flat.proofs.sets.Sets.narrow_place.Goals as goal

-- Where each row has one word, there are as many words as rows.
one_each : (words size columns p : ℕ) → words ≡ size * columns → columns ≡ 1 → p < size → p < words
one_each words size columns p all one below =
    let many : words ≡ size * 1 = subst (λ (k : ℕ). words ≡ size * k) one all in
    omega (arith, many, below)

pub returns-clause-marks : goal.returns-clause-marks
returns-clause-marks c =
    let below : c.args.position < c.self.inside.size = rw (← c.self.view_is) at c.requires.position in
    let one : c.self.inside.columns ≡ 1 = rw (← c.self.view_is) at c.requires.one in
    rw (← c.self.view_is) (one_each (length c.self.inside.marks.words) c.self.inside.size c.self.inside.columns c.args.position c.self.invariant.marks one below)
