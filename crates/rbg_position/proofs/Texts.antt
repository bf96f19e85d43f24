-- Texts and keys that are compared.
use Rattle.rbg_base.proofs.Common.{◌≡◌, ℕ, Bool, true, false, not, List, IsTrue, Decides, refl, sym, ap, ◌∙◌, bytes_eq, bytes_eq-Decides}
use Rattle.rbg_rules.specs.Meaning.{Expression}
use Rattle.rbg_position.specs.declared.key_mark.KeyMark.{KeyMark}
use Rattle.rbg_position.specs.internal.Marks.{rules_key}
use Rattle.rbg_position.proofs.Keys.{same_key}

not_false : (t : Bool) → false ≡ not t → t ≡ true
not_false true e = refl
not_false false e = e

-- texts that don't differ
pub same_text : (a b : List ℕ) → false ≡ not (bytes_eq a b) → a ≡ b
same_text a b test = (bytes_eq-Decides a b).0 (not_false (bytes_eq a b) test)

-- rules are the same exactly if their keys are
pub alike : (x y : Expression) (a b : List KeyMark) (t : Bool) → Decides t (a ≡ b) → a ≡ rules_key x → b ≡ rules_key y → (IsTrue t → x ≡ y) × (x ≡ y → IsTrue t)
alike x y a b t test a_is b_is = (
  λ h. same_key x y (sym a_is ∙ (test.0 h ∙ b_is)),
  λ e. test.1 (a_is ∙ (ap rules_key e ∙ sym b_is)),
)
