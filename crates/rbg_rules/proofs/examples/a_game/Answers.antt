-- The proof of `examples::a_game`.
use Rattle.rbg_base.proofs.Common.{◌≡◌, ℕ, zero, suc, ◌<◌, ◌≤◌, [], ◌∷◌, false, refl, inl, inr, sym, subst, arith, Some, IsTrue, List, list_any, bytes_eq, All-cons, All-nil}
use Rattle.rbg_board.specs.Graph.{next}
use Rattle.rbg_rules.specs.Meaning.{max_bound, AreLawfulNames, AbstractAction, positive, negative, switch, Expression, HasAction, IsLevel, inside, IsActionOf}
use Rattle.rbg_rules.specs.ExampleGames.{looking_right, two_squares}
use Rattle.rbg_rules.proofs.NameLemmas.{no_names, lawful_name}
use Rattle.rbg_base.specs.Names.{is_name}
use Rattle.rbg_rules.proofs.ActionsAt.{none_such, true_not_false, is_switch}
use Rattle.rbg_rules.proofs.ExampleLemmas.{differs}
use Rattle.rbg_rules.proofs.LookingRight.{right_off, numbered}
use Rattle.rbg_rules.proofs.examples.a_game.Goals as goal

-- Each action uses things that the game has, and the one pattern is the one that steps and puts.
abbrev IsRight : AbstractAction → Type 0
IsRight (positive x) = x ≡ right_off
IsRight (negative x) = ⊥
IsRight _ = Unit {0}

abbrev Speaks : AbstractAction → Type 0
Speaks a = IsActionOf looking_right a × IsRight a

speaks : (p : ℕ) (a : AbstractAction) → HasAction looking_right.rules p a → Speaks a
speaks p a (inr (inl (_, e))) = subst Speaks (sym e) (omega arith, tt)
speaks p a (inr (inr none)) = absurd none
speaks p a (inl (inr (inl (_, e)))) = subst Speaks (sym e) (omega arith, tt)
speaks p a (inl (inr (inr none))) = absurd none
speaks p a (inl (inl (inr (inl (_, e))))) = subst Speaks (sym e) (All-cons (λ x. x < 2) 0 [] (omega arith) (All-nil (λ x. x < 2)), tt)
speaks p a (inl (inl (inr (inr none)))) = absurd none
speaks p a (inl (inl (inl (inr (inl (_, e)))))) = subst Speaks (sym e) (omega arith, tt)
speaks p a (inl (inl (inl (inr (inr none))))) = absurd none
speaks p a (inl (inl (inl (inl (inr (inl (_, e))))))) = subst Speaks (sym e) (tt, refl)
speaks p a (inl (inl (inl (inl (inr (inr (inl (inl none)))))))) = absurd none
speaks p a (inl (inl (inl (inl (inr (inr (inl (inr (inl (_, e)))))))))) = subst Speaks (sym e) (omega arith, tt)
speaks p a (inl (inl (inl (inl (inr (inr (inl (inr (inr none))))))))) = absurd none
speaks p a (inl (inl (inl (inl (inr (inr (inr (inl (_, e))))))))) = subst Speaks (sym e) (omega arith, tt)
speaks p a (inl (inl (inl (inl (inr (inr (inr (inr none)))))))) = absurd none
speaks p a (inl (inl (inl (inl (inl (inr (inl (_, e)))))))) = subst Speaks (sym e) (omega arith, tt)
speaks p a (inl (inl (inl (inl (inl (inr (inr none))))))) = absurd none
speaks p a (inl (inl (inl (inl (inl (inl none)))))) = absurd none

no_switch : (q n : ℕ) → ¬ HasAction right_off q (switch n)
no_switch q n here = true_not_false (none_such (λ p a. is_switch a) right_off refl q (switch n) here)

no_switch_inside : (p : ℕ) (x : Expression) → IsLevel looking_right.rules (inside p) x → (q n : ℕ) → ¬ HasAction x q (switch n)
no_switch_inside p x (inl h) q n k = no_switch q n (subst (λ (y : Expression). HasAction y q (switch n)) (speaks p (positive x) h).1 k)
no_switch_inside p x (inr h) q n k = (speaks p (negative x) h).1

-- The two edges of the board.
edge : (v d u : ℕ) → next two_squares v d ≡ Some u → (v < 2) × (u < 2)
unfolding next
edge zero zero u e = absurd (cc e)
edge zero (suc zero) u e = absurd (cc e)
edge zero (suc (suc zero)) u e = absurd (cc e)
edge zero (suc (suc (suc zero))) u e = let same : 1 ≡ u = cc in (omega arith, omega arith)
edge zero (suc (suc (suc (suc d)))) u e = absurd (cc e)
edge (suc zero) zero u e = absurd (cc e)
edge (suc zero) (suc zero) u e = absurd (cc e)
edge (suc zero) (suc (suc zero)) u e = let same : 0 ≡ u = cc in (omega arith, omega arith)
edge (suc zero) (suc (suc (suc zero))) u e = absurd (cc e)
edge (suc zero) (suc (suc (suc (suc d)))) u e = absurd (cc e)
edge (suc (suc v)) d u e = absurd (cc e)

-- The names of the game are names, and differ.
name_before : (name : List ℕ) (names : List (List ℕ)) → IsTrue (is_name name) → list_any (λ other. bytes_eq other name) names ≡ false → AreLawfulNames names → AreLawfulNames (name ∷ names)
name_before name names is others = lawful_name name names is (differs name names others)

pub returns : goal.returns
returns c = record {
  numbered = numbered;
  no_empty_sum = ((((((tt, tt), ((tt, tt), tt)), tt), tt), tt), tt);
  actions = λ p a h. (speaks p a h).0;
  switches = no_switch_inside;
  scores = refl;
  variable_names = name_before _ _ refl refl (name_before _ _ refl refl (name_before _ _ refl refl no_names));
  piece_names = name_before _ _ refl refl (name_before _ _ refl refl no_names);
  direction_names = name_before _ _ refl refl (name_before _ _ refl refl (name_before _ _ refl refl (name_before _ _ refl refl no_names)));
  bounds = refl;
  board = record { from_vertex = λ v d u e. (edge v d u e).0; to_vertex = λ v d u e. (edge v d u e).1 };
  some_vertex = omega arith;
  first_pieces = All-cons (λ x. x < 2) 0 (0 ∷ []) (omega arith) (All-cons (λ x. x < 2) 0 [] (omega arith) (All-nil (λ x. x < 2)));
  limits = record { some_player = omega arith; players = omega arith; some_piece = omega arith; pieces = omega arith; variables = omega arith; bounds = All-cons (λ b. b ≤ max_bound) 100 (100 ∷ 1 ∷ []) (omega arith) (All-cons (λ b. b ≤ max_bound) 100 (1 ∷ []) (omega arith) (All-cons (λ b. b ≤ max_bound) 1 [] (omega arith) (All-nil (λ b. b ≤ max_bound)))); directions = omega arith; vertices = omega arith; positions = omega arith; nesting = ((((((tt, tt), (7, refl, ((tt, tt), tt))), tt), tt), tt), tt) };
}
