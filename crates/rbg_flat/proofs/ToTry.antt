-- What is to be looked at where it is met.
use Rattle.std.proofs.Common.{◌≡◌, ℕ, ◌<◌, inl, inr, List, true, false, length, sym, ap, subst, ◌∙◌, ◌↔◌}
use Rattle.rbg_base.specs.declared.relation.Relation.{Relation}
use Rattle.rbg_rules.specs.Meaning.{on, comparison, positive, negative, Expression, AbstractArithmetic, IsGame, HasAction, IsModifierAt, IsNumbered, IsPatternAt, is_modifier, is_pattern, AbstractGame, AbstractState, IsStateOf, Start}
use Rattle.rbg_rules.proofs.PositionLemmas.{one_action_at}
use Rattle.rbg_flat.proofs.Common.{Way, Holds, IsMet, first, then, IsComparisonAt, IsOneOf, IsToTry}
use Rattle.rbg_flat.proofs.Leaping.{first_on_board, lead_on_board}
use Rattle.rbg_flat.proofs.ModifierLemmas.{pattern_opens, comparison_quiet, no_comparison_on, no_comparison_pattern}
use Rattle.rbg_flat.proofs.Passings.{on_passes, passes_on}

true_not_false : true ≡ false → ⊥
true_not_false e = cc

-- No on stands where a pattern stands.
pub no_on : (rules : Expression) → IsNumbered rules → (p : ℕ) → IsPatternAt rules p → (wanted : List ℕ) → ¬ HasAction rules p (on wanted)
no_on rules numbered p pattern wanted stands = elim pattern.stands [
  | inl is ↦ true_not_false (ap is_pattern (one_action_at rules numbered p (positive pattern.inside_it) (on wanted) is stands))
  | inr is ↦ true_not_false (ap is_pattern (one_action_at rules numbered p (negative pattern.inside_it) (on wanted) is stands))
]

module _ (game : AbstractGame) (numbered : IsNumbered game.rules) (s : AbstractState) (p : ℕ) where
  -- Where no comparison stands, none has to hold.
  none_holds : (¬ IsComparisonAt game.rules p) → (v : ℕ) (e : AbstractArithmetic) (r : Relation) (f : AbstractArithmetic) → HasAction game.rules p (comparison e r f) → Holds game s v p
  none_holds none v e r f stands = absurd (none (record { left = e; relation = r; right = f; stands = stands }))

  -- A pattern is to be looked at everywhere.
  pub pattern_to_try : IsPatternAt game.rules p → (v : ℕ) → IsToTry game s v p
  pattern_to_try pattern v = record {
    quiet = pattern_opens game.rules numbered p pattern;
    stands = λ wanted stands. absurd (no_on game.rules numbered p pattern wanted stands);
    holds = none_holds (no_comparison_pattern game.rules numbered p pattern) v;
  }

  -- So is all that is no modifier, no on and no comparison.
  pub other_to_try : (¬ IsModifierAt game.rules p) → ((wanted : List ℕ) → ¬ HasAction game.rules p (on wanted)) → (¬ IsComparisonAt game.rules p) → (v : ℕ) → IsToTry game s v p
  other_to_try quiet none no_comparison v = record { quiet = quiet; stands = λ wanted stands. absurd (none wanted stands); holds = none_holds no_comparison v }

  -- A comparison is to be looked at where it passes.
  pub comparison_to_try : IsComparisonAt game.rules p → (v : ℕ) → Holds game s v p ↔ IsToTry game s v p
  comparison_to_try is v = (
    λ passes. record {
      quiet = comparison_quiet game.rules numbered p is;
      stands = λ wanted stands. absurd (no_comparison_on game.rules numbered p wanted stands is);
      holds = λ e r f stands. passes;
    },
    λ try. try.holds is.left is.relation is.right is.stands,
  )

  -- An on is to be looked at where one of its pieces stands, and it passes there.
  pub on_to_try : (wanted : List ℕ) → HasAction game.rules p (on wanted) → (v : ℕ) → IsOneOf wanted s.pieces v ↔ IsToTry game s v p
  on_to_try wanted stands v = (
    λ one. record {
      quiet = λ m. true_not_false (sym m.modifies ∙ ap is_modifier (one_action_at game.rules numbered p m.action (on wanted) m.stands stands));
      stands = λ others there. by_same others (one_action_at game.rules numbered p (on wanted) (on others) stands there) one;
      holds = none_holds (no_comparison_on game.rules numbered p wanted stands) v;
    },
    λ is. is.stands wanted stands,
  )
    where
      by_same : (others : List ℕ) → on wanted ≡ on others → IsOneOf wanted s.pieces v → IsOneOf others s.pieces v
      by_same others same one = subst (λ (xs : List ℕ). IsOneOf xs s.pieces v) (cc same) one

  pub tried_passes : (wanted : List ℕ) → HasAction game.rules p (on wanted) → (v : ℕ) → IsToTry game s v p → Holds game s v p
  tried_passes wanted stands v is = on_passes game numbered s p wanted stands v (is.stands wanted stands)

-- What is met is on the board.
pub met_on_board : (way : Way) (game : AbstractGame) → IsGame game → (s : AbstractState) (f : Start) → s.vertex < length game.board.first → (v p : ℕ) → IsMet way game s f v p → v < length game.board.first
met_on_board way game lawful s f here v p (first lead) = first_on_board way game lawful f s.vertex p v here lead
met_on_board way game lawful s f here v p (then {v = u} {q = q} met holds lead) = lead_on_board way game lawful q u p v (met_on_board way game lawful s f here u q met) lead

-- What was met and holds is to be looked at.
pub holds_to_try : (way : Way) (game : AbstractGame) → IsGame game → (s : AbstractState) → IsStateOf game s → (f : Start) (v p : ℕ) → IsMet way game s f v p → Holds game s v p → IsToTry game s v p
holds_to_try way game lawful s fits f v p met holds = record {
  quiet = holds.quiet;
  stands = λ wanted stands.
      let here : s.vertex < length game.board.first = subst (λ (k : ℕ). s.vertex < k) fits.vertices fits.vertex in
      let below : v < length s.pieces = subst (λ (k : ℕ). v < k) (sym fits.vertices) (met_on_board way game lawful s f here v p met) in
      passes_on game lawful.numbered s p wanted stands v below holds;
  holds = λ e r g stands. holds;
}

-- What tells that one of an on's pieces stands there tells that it is to be tried.
pub on_told : (game : AbstractGame) → IsNumbered game.rules → (s : AbstractState) (p : ℕ) (wanted : List ℕ) → HasAction game.rules p (on wanted) → (v : ℕ) (B : Type 0) → B ↔ IsOneOf wanted s.pieces v → B ↔ IsToTry game s v p
on_told game numbered s p wanted stands v B told = let try = on_to_try game numbered s p wanted stands v in ((λ b. try.0 (told.0 b)), (λ is. told.1 (try.1 is)))
