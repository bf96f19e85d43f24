-- Lists that keep some items of others.
use Rattle.std.specs.Prelude.{List, [], ◌∷◌}

-- The second list has the items of the first one of which P holds, in their order.
pub data Keeps {A : Type 0} (P : A → Type 0) : List A → List A → Type 0 where
  nothing : Keeps P [] []
  kept : (x : A) (xs ys : List A) → P x → Keeps P xs ys → Keeps P (x ∷ xs) (x ∷ ys)
  left_out : (x : A) (xs ys : List A) → (P x → ⊥) → Keeps P xs ys → Keeps P (x ∷ xs) ys
