-- What passes from an expression to its parts reaches the actions in it.
use Rattle.std.proofs.Common.{◌≡◌, ℕ, suc, ◌≤◌, inl, inr, sym, subst, arith}
use Rattle.rbg_rules.specs.Meaning.{AbstractAction, positive, negative, Expression, act, skip, sequence, fail, choice, star, HasAction, HasInside}

-- `Holds` is about an expression in which `left` patterns may be opened, and `HoldsOf` about an action.
module _ (Holds : ℕ → Expression → Type 0) (HoldsOf : ℕ → AbstractAction → Type 0)
    (of_act : (left p : ℕ) (a : AbstractAction) → Holds left (act p a) → HoldsOf left a)
    (of_sequence : (left : ℕ) (x y : Expression) → Holds left (sequence x y) → Holds left x × Holds left y)
    (of_choice : (left : ℕ) (x y : Expression) → Holds left (choice x y) → Holds left x × Holds left y)
    (of_star : (left : ℕ) (x : Expression) → Holds left (star x) → Holds left x)
    (of_positive : (left : ℕ) (x : Expression) → HoldsOf left (positive x) → (below : ℕ) × (left ≡ suc below) × Holds below x)
    (of_negative : (left : ℕ) (x : Expression) → HoldsOf left (negative x) → (below : ℕ) × (left ≡ suc below) × Holds below x) where
  mutual
    -- at an action no more patterns may be opened than around it
    pub reaches : (left p : ℕ) (x : Expression) (a : AbstractAction) → Holds left x → HasAction x p a → (below : ℕ) × (below ≤ left) × HoldsOf below a
    reaches left p (act q c) a h (inl (at, same)) = (left, omega arith, subst (HoldsOf left) (sym same) (of_act left q c h))
    reaches left p (act q c) a h (inr has) = reaches_inside left p c a (of_act left q c h) has
    reaches left p skip a h has = absurd has
    reaches left p (sequence x y) a h (inl has) = reaches left p x a (of_sequence left x y h).0 has
    reaches left p (sequence x y) a h (inr has) = reaches left p y a (of_sequence left x y h).1 has
    reaches left p fail a h has = absurd has
    reaches left p (choice x y) a h (inl has) = reaches left p x a (of_choice left x y h).0 has
    reaches left p (choice x y) a h (inr has) = reaches left p y a (of_choice left x y h).1 has
    reaches left p (star x) a h has = reaches left p x a (of_star left x h) has

    reaches_inside : (left p : ℕ) (c a : AbstractAction) → HoldsOf left c → HasInside c p a → (below : ℕ) × (below ≤ left) × HoldsOf below a
    reaches_inside left p (positive x) a h has =
        let (m, few, inside) = of_positive left x h in
        let (below, fewer, there) = reaches m p x a inside has in
        (below, omega arith, there)
    reaches_inside left p (negative x) a h has =
        let (m, few, inside) = of_negative left x h in
        let (below, fewer, there) = reaches m p x a inside has in
        (below, omega arith, there)
    reaches_inside left p _ a h has = absurd has
