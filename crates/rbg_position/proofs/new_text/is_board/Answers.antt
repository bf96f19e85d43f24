-- Both tokens are looked at.
use Rattle.rbg_base.proofs.Common.{◌≡◌, ℕ, List, Bool, true, false, IsTrue, sym, ◌∙◌, false≢true, bytes_eq, bytes_eq-Decides}
use Rattle.rbg_position.proofs.new_text.is_board.Goals as goal

both : (h : Bool) (t : Bool) (a b : List ℕ) → h ≡ true → t ≡ bytes_eq a b → (IsTrue t → (h ≡ true) × (a ≡ b)) × ((h ≡ true) × (a ≡ b) → IsTrue t)
both h t a b hash test = (
  λ e. (hash, (bytes_eq-Decides a b).0 (sym test ∙ e)),
  λ p. test ∙ (bytes_eq-Decides a b).1 p.1,
)

neither : (h t : Bool) (P : Type 0) → t ≡ h → t ≡ false → (IsTrue t → (h ≡ true) × P) × ((h ≡ true) × P → IsTrue t)
neither h t P is none = (λ e. absurd (false≢true (sym none ∙ e)), λ p. is ∙ p.0)

pub returns-then-is : goal.returns-then-is
returns-then-is c = rw (← c.as_slice.ensures) (both _ _ _ _ (sym c.is.ensures ∙ c.if-is.true) c.eq.ensures)

pub returns-else-is : goal.returns-else-is
returns-else-is c = neither _ _ _ c.is.ensures c.if-is.false
