-- Numbers, places in lists, and lists that are extended.
use Rattle.rbg_base.proofs.Common.{◌≡◌, ◌≢◌, ℕ, ◌+◌, ◌*◌, ◌/◌, ◌%◌, ◌<◌, ◌≤◌, ◌⊎◌, List, [], ◌∷◌, ◌++◌, append_assoc, length, get_or, take, drop, Bool, true, false, refl, sym, ap, ◌∙◌, inl, inr, zero, suc, arith, ◌==◌, Decides, slice_range, Decides-eqb, div-mul-add, mod-mul-add}
use Rattle.std.proofs.lemmas.List.{append-nil, length-append, length-take-le, length-drop, get_or-drop, get_or-take, get_or_append_left, take-append-le}
use Rattle.std.proofs.lemmas.Slice.{between_is}
use Rattle.rbg_shifts.specs.internal.Interned.{Extends}

true_not_false : true ≡ false → ⊥
true_not_false e = cc

pub same_or_not : (a b : ℕ) → (a ≡ b) ⊎ (a ≢ b)
same_or_not a b = by_test (a == b) (Decides-eqb a b)
  where
    by_test : (r : Bool) → Decides r (a ≡ b) → (a ≡ b) ⊎ (a ≢ b)
    by_test true decides = inl (decides.0 refl)
    by_test false decides = inr (λ e. true_not_false (sym (decides.1 e)))

-- Two numbers that are put together from a row and a place in it are equal in both.
pub one_place : (n v w p q : ℕ) → v < n → w < n → p * n + v ≡ q * n + w → (p ≡ q) × (v ≡ w)
one_place n v w p q first second same = (
  sym (div-mul-add p n v first) ∙ ap (λ (x : ℕ). x / n) same ∙ div-mul-add q n w second,
  sym (mod-mul-add p n v first) ∙ ap (λ (x : ℕ). x % n) same ∙ mod-mul-add q n w second,
)

pub below_or_not : (a b : ℕ) → (a < b) ⊎ (b ≤ a)
below_or_not a zero = inr (omega arith)
below_or_not zero (suc b) = inl (omega arith)
below_or_not (suc a) (suc b) = up (below_or_not a b)
  where
    up : (a < b) ⊎ (b ≤ a) → (suc a < suc b) ⊎ (suc b ≤ suc a)
    up (inl e) = inl (omega (arith, e))
    up (inr e) = inr (omega (arith, e))

-- Lists that were extended.
pub extends_none : {X : Type 0} (xs : List X) → Extends xs xs
extends_none xs = record { more = []; is = sym (append-nil xs) }

pub extends_more : {X : Type 0} (xs ys zs : List X) → Extends xs ys → Extends ys zs → Extends xs zs
extends_more xs ys zs first second = record {
  more = first.more ++ second.more;
  is = second.is ∙ ap (λ (ws : List _). ws ++ second.more) first.is ∙ append_assoc xs first.more second.more;
}

pub extends_by : {X : Type 0} (xs ys more : List X) → ys ≡ xs ++ more → Extends xs ys
extends_by xs ys more is = record { more = more; is = is }

pub longer : {X : Type 0} (old new : List X) → Extends old new → length old ≤ length new
longer old new extends = let long = ap length extends.is ∙ length-append old extends.more in omega (arith, long)

pub part_extended : {X : Type 0} (old new : List X) → Extends old new → (a b : ℕ) → b ≤ length old → slice_range new a b ≡ slice_range old a b
part_extended old new extends a b within =
    ap (λ (xs : List _). slice_range xs a b) extends.is
    ∙ between_is (old ++ extends.more) a b
    ∙ ap (drop a) (take-append-le b old extends.more within)
    ∙ sym (between_is old a b)

pub item_extended : {X : Type 0} (old new : List X) → Extends old new → (i : ℕ) (d : X) → i < length old → get_or new i d ≡ get_or old i d
item_extended old new extends i d within = ap (λ (xs : List _). get_or xs i d) extends.is ∙ get_or_append_left old extends.more d i within

-- What is in a list doesn't depend on the default.
pub any_default : {X : Type 0} (xs : List X) (k : ℕ) (c d : X) → k < length xs → get_or xs k c ≡ get_or xs k d
any_default [] k c d below = absurd (omega (arith, below))
any_default (x ∷ xs) zero c d below = refl
any_default (x ∷ xs) (suc k) c d below = any_default xs k c d (omega (arith, below))

pub same_item : (xs : List ℕ) (k d : ℕ) → k < length xs → get_or xs k d ≡ get_or xs k 0
same_item [] k d below = absurd (omega (arith, below))
same_item (x ∷ xs) zero d below = refl
same_item (x ∷ xs) (suc k) d below = same_item xs k d (omega (arith, below))

-- One item more in a list: which place is it?
pub data LastPlace (many : ℕ) : ℕ → Type 0 where
  before : {i : ℕ} → i < many → LastPlace many i
  last : {i : ℕ} → i ≡ many → LastPlace many i

pub last_place : (many i : ℕ) → i < many + 1 → LastPlace many i
last_place many i below = elim (below_or_not i many) [
  | inl e ↦ before e
  | inr e ↦ last (omega (arith, e, below))
]

-- An item of a part of a list.
pub part_item : {X : Type 0} (xs : List X) (a b i : ℕ) (d : X) → a + i < b → get_or (slice_range xs a b) i d ≡ get_or xs (a + i) d
part_item xs a b i d below = ap (λ (ys : List _). get_or ys i d) (between_is xs a b) ∙ get_or-drop a (take b xs) i d ∙ get_or-take b xs (a + i) d below

pub part_long : {X : Type 0} (xs : List X) (a b i : ℕ) → b ≤ length xs → a + i < b → i < length (slice_range xs a b)
part_long xs a b i within below =
    let same = ap length (between_is xs a b) in
    let front = length-take-le b xs within in
    let rest = length-drop a (take b xs) in
    omega (arith, same, front, rest, below)

pub part_short : {X : Type 0} (xs : List X) (a b i : ℕ) → b ≤ length xs → i < length (slice_range xs a b) → a + i < b
part_short xs a b i within below =
    let same = ap length (between_is xs a b) in
    let front = length-take-le b xs within in
    let rest = length-drop a (take b xs) in
    omega (arith, same, front, rest, below)
