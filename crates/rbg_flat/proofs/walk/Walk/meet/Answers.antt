use Rattle.rbg_base.proofs.Common.{◌≡◌, ℕ, ◌+◌, ◌*◌, ◌%◌, ◌<◌, ◌⊎◌, inl, inr, length, refl, sym, ◌∙◌, arith, subst, slice_set, Bool, true, IsTrue}
use Rattle.std.proofs.lemmas.List.{length-set}
use Rattle.rbg_flat.specs.declared.walk.Walk.{Walk}
use Rattle.rbg_flat.specs.internal.Walking.{IsWaiting}
use Rattle.rbg_flat.proofs.Onwards.{false_not_true}
use Rattle.rbg_flat.proofs.Walkings.{goes_one, still_waits, now_waits, waited_or_new, sum_fits}
use Rattle.rbg_flat.proofs.walk.Walk.meet.Goals as goal

pub overflow_add-self : goal.overflow_add-self
overflow_add-self c =
    let fits = sum_fits c.args.setting.now.game.now c.requires.set.lawful c.args.setting.now.state.now.state c.args.self.now c.requires.walk in
    record { fits = fits }

pub returns-in_default : goal.returns-in_default
returns-in_default c = λ told. absurd (false_not_true told)

pub returns-then-shared-ne0 : goal.returns-then-shared-ne0
returns-then-shared-ne0 c = λ told. absurd (false_not_true told)

pub returns-then-self-ge-MOST_WAITING : goal.returns-then-self-ge-MOST_WAITING
returns-then-self-ge-MOST_WAITING c = λ told. absurd (false_not_true told)

pub returns-then-not-opens : goal.returns-then-not-opens
returns-then-not-opens c = λ told was.
    let game = c.args.setting.now.game.now in
    let s = c.args.setting.now.state.now.state in
    let t = c.args.target.now in
    let is = c.in-Some.ensures in
    goes_one game s c.args.self.now was t c.in-Some.opens is (c.requires.board is.vertex t.position is.there) c.requires.target.target.position
    c.shared.result c.shared.ensures.all c.if-shared-ne0.false
    _ refl was.todo refl was.room
    (λ v p waits. waits)
    (λ opens. absurd (false_not_true (sym c.if-not-opens.true ∙ opens)))
    (λ v p waits. inl waits)

by_new : (old new : Walk) (q : ℕ × ℕ) (vertex position : ℕ) → ◌≡◌ {A = ℕ × ℕ} q (vertex, position) → (opens : Bool) → opens ≡ true → (v p : ℕ) → IsWaiting old v p ⊎ (◌≡◌ {A = ℕ × ℕ} q (v, p)) → IsWaiting old v p ⊎ (IsTrue opens × (◌≡◌ {A = ℕ × ℕ} (vertex, position) (v, p)))
by_new old new q vertex position same opens told v p (inl waits) = inl waits
by_new old new q vertex position same opens told v p (inr is) = inr (told, sym same ∙ is)

pub returns : goal.returns
returns c = λ told was.
    let game = c.args.setting.now.game.now in
    let s = c.args.setting.now.state.now.state in
    let old = c.args.self.now in
    let t = c.args.target.now in
    let is = c.in-Some.ensures in
    let q : ℕ × ℕ = (t.column * 64 + c.lowest.result, t.position) in
    let column : (t.column * 64 + c.lowest.result) ≡ is.vertex = is.only (t.column * 64 + c.lowest.result) t.position (record {
      position = refl;
      column = let small = c.lowest.ensures.small in omega (arith, small);
      set = let small = c.lowest.ensures.small in subst (λ (k : ℕ). Rattle.std.specs.Int.bit_at t.word k ≡ 1) (let at : c.lowest.result ≡ (t.column * 64 + c.lowest.result) % 64 = omega (arith, small) in at) c.lowest.ensures.set;
    }) in
    let same : ◌≡◌ {A = ℕ × ℕ} q (is.vertex, t.position) = λ i. (column i, t.position) in
    let below : old.waiting < length old.todo = omega (arith, c.if-self-ge-MOST_WAITING.false, was.todo) in
    let new : Walk = record { marks = _; todo = slice_set old.todo old.waiting q; waiting = old.waiting + 1; many = old.many + 1 } in
    goes_one game s old was t c.in-Some.opens is (c.requires.board is.vertex t.position is.there) c.requires.target.target.position
    c.shared.result c.shared.ensures.all c.if-shared-ne0.false
    new refl (length-set old.todo old.waiting q ∙ was.todo) refl (omega (arith, c.if-self-ge-MOST_WAITING.false))
    (still_waits old new q refl refl below)
    (λ opens. subst (λ (x : ℕ × ℕ). IsWaiting new x.0 x.1) same (now_waits old new q refl refl below))
    (λ v p waits. by_new old new q is.vertex t.position same c.in-Some.opens c.if-not-opens.false v p (waited_or_new old new q refl refl below v p waits))
