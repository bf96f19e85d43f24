use Rattle.rbg_base.proofs.Common.{◌≡◌, ℕ, ◌+◌, ◌*◌, ◌%◌, ◌<◌, ◌^◌, sym, ap, subst, ◌∙◌, arith, mul-add-lt}
use Rattle.std.proofs.Math.Nat.{mul_comm, mod-eq_of_lt}
use Rattle.rbg_flat.proofs.sets.Sets.place.Goals as goal

-- A place is below the number of all words, which is a number of 64 bits.
small_place : (size columns q c : ℕ) → q < size → c < columns → size * columns < 2 ^ 64 → q * columns + c < 2 ^ 64
small_place size columns q c first second small = let below = mul-add-lt q columns c size first second in let turned = mul_comm columns size in omega (arith, below, turned, small)

-- A position is moved up to where its row begins, and the column fits after that.
moved : (size columns shift q c : ℕ) → columns ≡ 2 ^ shift → q < size → c < columns → size * columns < 2 ^ 64 → (q * 2 ^ shift % 2 ^ 64 ≡ q * columns) × (q * 2 ^ shift % 2 ^ 64 + c < 2 ^ 64)
moved size columns shift q c doubled first second small =
    let fits = small_place size columns q c first second small in
    let base : q * 2 ^ shift % 2 ^ 64 ≡ q * columns = ap (λ (k : ℕ). q * k % 2 ^ 64) (sym doubled) ∙ mod-eq_of_lt (omega (arith, fits)) in
    (base, subst (λ (k : ℕ). k + c < 2 ^ 64) (sym base) fits)

pub overflow_add-result : goal.overflow_add-result
overflow_add-result c =
    let first = rw (← c.self.view_is) at c.requires.position in
    let second = rw (← c.self.view_is) at c.requires.column in
    record { fits = (moved c.self.inside.size c.self.inside.columns c.self.inside.shift c.args.position c.args.column c.self.inside.doubled first second c.self.invariant.small).1 }

pub returns-clause-place : goal.returns-clause-place
returns-clause-place c =
    let first = rw (← c.self.view_is) at c.requires.position in
    let second = rw (← c.self.view_is) at c.requires.column in
    rw (← c.self.view_is) (ap (λ (k : ℕ). k + c.args.column) (moved c.self.inside.size c.self.inside.columns c.self.inside.shift c.args.position c.args.column c.self.inside.doubled first second c.self.invariant.small).0)
