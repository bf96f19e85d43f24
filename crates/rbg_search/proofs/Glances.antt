-- What becomes of an action of which an automaton tells at once.
use Rattle.std.proofs.Common.{◌≡◌, ◌⊎◌, ℕ, zero, suc, [], ◌∷◌, true, false, inl, inr, sym, ap, refl, ◌∙◌, arith, Contains, Option, Some, None, slice_index}
use Rattle.rbg_board.specs.Graph.{next}
use Rattle.rbg_rules.specs.Meaning.{AbstractAction, shift, on, off, switch, positive, negative, Expression, IsNumbered, HasAction, IsPatternAt, is_modifier, is_pattern, AbstractGame, AbstractState, Acts}
use Rattle.rbg_rules.proofs.MoveLemmas.{applied_acts}
use Rattle.rbg_rules.proofs.PositionLemmas.{one_action_at}
use Rattle.rbg_search.proofs.Along.{at_vertex, IsTrialAt}
use Rattle.rbg_state.specs.declared.state.trials.Trial.TheVariants.{Invalid, Modifies, LeadsTo}
use Rattle.rbg_search.proofs.Modifiers.{leads_on}

true_not_false : true ≡ false → ⊥
true_not_false e = cc

-- A position whose action is no pattern is no pattern's.
pub no_pattern : (rules : Expression) → IsNumbered rules → (q : ℕ) (a : AbstractAction) → HasAction rules q a → is_pattern a ≡ false → ¬ IsPatternAt rules q
no_pattern rules numbered q a here plain is = elim is.stands [
  | inl stands ↦ true_not_false (ap is_pattern (one_action_at rules numbered q (positive is.inside_it) a stands here) ∙ plain)
  | inr stands ↦ true_not_false (ap is_pattern (one_action_at rules numbered q (negative is.inside_it) a stands here) ∙ plain)
]

module _ (game : AbstractGame) (numbered : IsNumbered game.rules) (s : AbstractState) (v q : ℕ) (a : AbstractAction) (here : HasAction game.rules q a) where
  -- An action that is no modifier and takes one to a vertex leads there.
  pub acts_leads : (u : ℕ) → is_modifier a ≡ false → Acts game a (at_vertex s v) (at_vertex s u) → IsTrialAt game s v q (LeadsTo u)
  acts_leads u quiet acts =
      leads_on game numbered s v q u
      (λ m. true_not_false (sym m.modifies ∙ ap is_modifier (one_action_at game.rules numbered q m.action a m.stands here) ∙ quiet))
      (record { action = a; stands = here; acts = acts })

  -- One that takes one nowhere is not valid.
  pub acts_nowhere : ((t : AbstractState) → ¬ Acts game a (at_vertex s v) t) → IsTrialAt game s v q Invalid
  acts_nowhere none = λ t applies. none t (applied_acts game numbered q a here applies)

  -- A modifier that takes one somewhere is valid.
  pub acts_modifies : (t : AbstractState) → is_modifier a ≡ true → Acts game a (at_vertex s v) t → IsTrialAt game s v q Modifies
  acts_modifies t modifies acts = (record { action = a; stands = here; modifies = modifies }, (t, record { action = a; stands = here; acts = acts }))

-- A shift along an edge, and where there is none.
pub shift_leads : (game : AbstractGame) → IsNumbered game.rules → (s : AbstractState) (v q d u : ℕ) → HasAction game.rules q (shift d) → next game.board v d ≡ Some u → IsTrialAt game s v q (LeadsTo u)
shift_leads game numbered s v q d u here edge = acts_leads game numbered s v q (shift d) here u refl (u, edge, refl)

pub shift_stays : (game : AbstractGame) → IsNumbered game.rules → (s : AbstractState) (v q d : ℕ) → HasAction game.rules q (shift d) → next game.board v d ≡ None → IsTrialAt game s v q Invalid
shift_stays game numbered s v q d here none = acts_nowhere game numbered s v q (shift d) here (λ t (u, edge, same). some_not_none u (sym edge ∙ none))
  where
    some_not_none : (u : ℕ) → ◌≡◌ {A = Option ℕ} (Some u) None → ⊥
    some_not_none u e = cc

-- An on of the piece that stands there, and of another one.
pub on_leads : (game : AbstractGame) → IsNumbered game.rules → (s : AbstractState) (v q x : ℕ) → HasAction game.rules q (on (x ∷ [])) → slice_index s.pieces v ≡ x → IsTrialAt game s v q (LeadsTo v)
on_leads game numbered s v q x here is = acts_leads game numbered s v q (on (x ∷ [])) here v refl ((0, omega arith, sym is), refl)

pub on_another : (game : AbstractGame) → IsNumbered game.rules → (s : AbstractState) (v q x : ℕ) → HasAction game.rules q (on (x ∷ [])) → (slice_index s.pieces v ≡ x → ⊥) → IsTrialAt game s v q Invalid
on_another game numbered s v q x here other = acts_nowhere game numbered s v q (on (x ∷ [])) here (λ t (among, same). other (alone x (slice_index s.pieces v) among))
  where
    alone : (x y : ℕ) → Contains (x ∷ []) y → y ≡ x
    alone x y (zero, below, is) = sym is
    alone x y (suc k, below, is) = absurd (omega (arith, below))

-- An on of two pieces, of which one stands there, and where another one does.
pub either_leads : (game : AbstractGame) → IsNumbered game.rules → (s : AbstractState) (v q x y : ℕ) → HasAction game.rules q (on (x ∷ y ∷ [])) → (slice_index s.pieces v ≡ x) ⊎ (slice_index s.pieces v ≡ y) → IsTrialAt game s v q (LeadsTo v)
either_leads game numbered s v q x y here (inl is) = acts_leads game numbered s v q (on (x ∷ y ∷ [])) here v refl ((0, omega arith, sym is), refl)
either_leads game numbered s v q x y here (inr is) = acts_leads game numbered s v q (on (x ∷ y ∷ [])) here v refl ((1, omega arith, sym is), refl)

pub either_another : (game : AbstractGame) → IsNumbered game.rules → (s : AbstractState) (v q x y : ℕ) → HasAction game.rules q (on (x ∷ y ∷ [])) → (slice_index s.pieces v ≡ x → ⊥) → (slice_index s.pieces v ≡ y → ⊥) → IsTrialAt game s v q Invalid
either_another game numbered s v q x y here first second = acts_nowhere game numbered s v q (on (x ∷ y ∷ [])) here (λ t (among, same). neither (slice_index s.pieces v) first second among)
  where
    neither : (z : ℕ) → (z ≡ x → ⊥) → (z ≡ y → ⊥) → Contains (x ∷ y ∷ []) z → ⊥
    neither z first second (zero, below, is) = first (sym is)
    neither z first second (suc zero, below, is) = second (sym is)
    neither z first second (suc (suc k), below, is) = absurd (omega (arith, below))

-- An off and a switch are valid everywhere.
pub always_modifies : (game : AbstractGame) → IsNumbered game.rules → (s : AbstractState) (v q : ℕ) → (((x : ℕ) × HasAction game.rules q (off x)) ⊎ ((n : ℕ) × HasAction game.rules q (switch n))) → IsTrialAt game s v q Modifies
always_modifies game numbered s v q (inl (x, here)) = acts_modifies game numbered s v q (off x) here _ refl refl
always_modifies game numbered s v q (inr (n, here)) = acts_modifies game numbered s v q (switch n) here _ refl refl

pub modifies_plain : (rules : Expression) → IsNumbered rules → (q : ℕ) → (((x : ℕ) × HasAction rules q (off x)) ⊎ ((n : ℕ) × HasAction rules q (switch n))) → ¬ IsPatternAt rules q
modifies_plain rules numbered q (inl (x, here)) = no_pattern rules numbered q (off x) here refl
modifies_plain rules numbered q (inr (n, here)) = no_pattern rules numbered q (switch n) here refl
