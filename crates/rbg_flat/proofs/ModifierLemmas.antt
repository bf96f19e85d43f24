-- Of which kind the actions of the program are.
use Rattle.std.proofs.Common.{IsTrue, ◌≡◌, ◌<◌, ℕ, List, ◌⊎◌, Bool, true, false, inl, inr, refl, sym, ap, subst, ◌∙◌, arith}
use Rattle.rbg_rules.specs.Meaning.{AbstractAction, shift, on, off, comparison, switch, positive, negative, Expression, HasAction, IsNumbered, IsModifierAt, IsPatternAt, is_modifier, is_pattern, AbstractGame, AbstractState, IsActionAt}
use Rattle.rbg_rules.specs.declared.rule.Action.{Action}
use Rattle.rbg_rules.specs.declared.rule.Action.TheVariants.{Shift, On, Off, Assign, Compare, Switch, Positive, Negative}
use Rattle.rbg_rules.proofs.PositionLemmas.{one_action_at}
use Rattle.rbg_shifts.proofs.ShiftLemmas.{action_within}
use Rattle.rbg_flat.proofs.Common.{Facts, Kind, AreShown, IsKind, IsComparisonAt, IsSureAt, Keeps, ShowsFacts, HasNoPieces, HasPieces}
use Rattle.rbg_flat.specs.declared.paths.Kind.TheVariants.{OnEither, Modifier, Pattern, On as OnOne, Comparison, Plain}

true_not_false : true ≡ false → ⊥
true_not_false e = cc

-- Where an action stands that is neither, no modifier and no pattern stands.
no_modifier : (rules : Expression) → IsNumbered rules → (p : ℕ) (a : AbstractAction) → HasAction rules p a → is_modifier a ≡ false → ¬ IsModifierAt rules p
no_modifier rules numbered p a stands plain other = true_not_false (sym other.modifies ∙ ap is_modifier (one_action_at rules numbered p other.action a other.stands stands) ∙ plain)

no_pattern : (rules : Expression) → IsNumbered rules → (p : ℕ) (a : AbstractAction) → HasAction rules p a → is_pattern a ≡ false → ¬ IsPatternAt rules p
no_pattern rules numbered p a stands plain pattern = elim pattern.stands [
  | inl is ↦ true_not_false (ap is_pattern (one_action_at rules numbered p (positive pattern.inside_it) a is stands) ∙ plain)
  | inr is ↦ true_not_false (ap is_pattern (one_action_at rules numbered p (negative pattern.inside_it) a is stands) ∙ plain)
]

-- Where another action stands, no on does.
abbrev is_on : AbstractAction → Bool
is_on (on xs) = true
is_on _ = false

no_on_of : (rules : Expression) → IsNumbered rules → (p : ℕ) (a : AbstractAction) → HasAction rules p a → is_on a ≡ false → (wanted : List ℕ) → ¬ HasAction rules p (on wanted)
no_on_of rules numbered p a stands other wanted there = true_not_false (ap is_on (one_action_at rules numbered p (on wanted) a there stands) ∙ other)

-- Nor does a comparison.
abbrev is_comparison : AbstractAction → Bool
is_comparison (comparison e r f) = true
is_comparison _ = false

pub no_comparison_of : (rules : Expression) → IsNumbered rules → (p : ℕ) (a : AbstractAction) → HasAction rules p a → is_comparison a ≡ false → ¬ IsComparisonAt rules p
no_comparison_of rules numbered p a stands other is = true_not_false (ap is_comparison (one_action_at rules numbered p (comparison is.left is.relation is.right) a is.stands stands) ∙ other)

pub no_comparison_on : (rules : Expression) → IsNumbered rules → (p : ℕ) (wanted : List ℕ) → HasAction rules p (on wanted) → ¬ IsComparisonAt rules p
no_comparison_on rules numbered p wanted stands = no_comparison_of rules numbered p (on wanted) stands refl

pub no_comparison_pattern : (rules : Expression) → IsNumbered rules → (p : ℕ) → IsPatternAt rules p → ¬ IsComparisonAt rules p
no_comparison_pattern rules numbered p pattern = elim pattern.stands [
  | inl stands ↦ no_comparison_of rules numbered p (positive pattern.inside_it) stands refl
  | inr stands ↦ no_comparison_of rules numbered p (negative pattern.inside_it) stands refl
]

-- Where a comparison stands, no modifier, no pattern and no on does.
pub comparison_quiet : (rules : Expression) → IsNumbered rules → (p : ℕ) → IsComparisonAt rules p → ¬ IsModifierAt rules p
comparison_quiet rules numbered p is = no_modifier rules numbered p (comparison is.left is.relation is.right) is.stands refl

pub comparison_plain : (rules : Expression) → IsNumbered rules → (p : ℕ) → IsComparisonAt rules p → ¬ IsPatternAt rules p
comparison_plain rules numbered p is = no_pattern rules numbered p (comparison is.left is.relation is.right) is.stands refl

plain_kind : (rules : Expression) → IsNumbered rules → (p : ℕ) (a : AbstractAction) → HasAction rules p a → is_modifier a ≡ false → is_pattern a ≡ false → is_on a ≡ false → is_comparison a ≡ false → IsKind rules p Plain
plain_kind rules numbered p a stands quiet plain other more = (no_modifier rules numbered p a stands quiet, no_pattern rules numbered p a stands plain, no_on_of rules numbered p a stands other, no_comparison_of rules numbered p a stands more)

-- What an action's facts tell of it.
of_kind : (rules : Expression) (p : ℕ) (told : Facts) (kind : Kind) → told.kind ≡ kind → IsKind rules p kind → IsKind rules p told.kind
of_kind rules p told kind is there = subst (λ (k : Kind). IsKind rules p k) (sym is) there

no_pieces : (rules : Expression) (p : ℕ) (kind : Kind) (sure : Bool) (told : Facts) → HasNoPieces kind sure told → (kind ≡ OnEither → ⊥) → IsKind rules p kind → (IsTrue sure → IsSureAt rules p) → AreShown rules p told
no_pieces rules p kind sure told has other there valid = record {
  kind = of_kind rules p told kind has.kind_is there;
  alone = λ is. absurd (true_not_false (sym is ∙ has.alone_is));
  two = λ is. absurd (other (sym has.kind_is ∙ is));
  sure = λ is. valid (sym has.sure_is ∙ is);
}

on_facts : (rules : Expression) (p : ℕ) (pieces : List ℕ) → HasAction rules p (on pieces) → (told : Facts) → HasPieces pieces told → AreShown rules p told
on_facts rules p pieces stands told has = record {
  kind = by_kind has.kind;
  alone = λ is. subst (λ (xs : List ℕ). HasAction rules p (on xs)) (has.alone is) stands;
  two = λ is. subst (λ (xs : List ℕ). HasAction rules p (on xs)) (has.two is) stands;
  sure = λ is. absurd (true_not_false (sym is ∙ has.sure_is));
}
  where
    by_kind : (told.kind ≡ OnOne) ⊎ (told.kind ≡ OnEither) → IsKind rules p told.kind
    by_kind (inl is) = of_kind rules p told OnOne is (pieces, stands)
    by_kind (inr is) = of_kind rules p told OnEither is (pieces, stands)

-- None but offs and switches are told to be sure.
not_sure : (rules : Expression) (p : ℕ) → IsTrue false → IsSureAt rules p
not_sure rules p is = absurd (true_not_false (sym is))

-- What the facts of an action tell is so at its position.
pub facts_stand : (rules : Expression) → IsNumbered rules → (p : ℕ) (i : Action) → IsActionAt rules p i → (told : Facts) → ShowsFacts i told → AreShown rules p told
facts_stand rules numbered p (Shift d) stands told is = no_pieces rules p Plain false told is (λ e. cc) (plain_kind rules numbered p (shift d) stands refl refl refl refl) (not_sure rules p)
facts_stand rules numbered p (On pieces) stands told is = on_facts rules p pieces.items stands told is
facts_stand rules numbered p (Off x) stands told is = no_pieces rules p Modifier true told is (λ e. cc) (record { action = off x; stands = stands; modifies = refl }) (λ _. record { stands = inl (x, stands) })
facts_stand rules numbered p (Assign v e) stands told is = no_pieces rules p Modifier false told is (λ e. cc) (record { action = _; stands = stands; modifies = refl }) (not_sure rules p)
facts_stand rules numbered p (Compare e r f) stands told is = no_pieces rules p Comparison false told is (λ e. cc) (record { left = _; relation = r; right = _; stands = stands }) (not_sure rules p)
facts_stand rules numbered p (Switch n) stands told is = no_pieces rules p Modifier true told is (λ e. cc) (record { action = switch n; stands = stands; modifies = refl }) (λ _. record { stands = inr (n, stands) })
facts_stand rules numbered p Positive (x, stands) told is = no_pieces rules p Pattern false told is (λ e. cc) (record { inside_it = x; stands = inl stands }) (not_sure rules p)
facts_stand rules numbered p Negative (x, stands) told is = no_pieces rules p Pattern false told is (λ e. cc) (record { inside_it = x; stands = inr stands }) (not_sure rules p)

-- A pattern is no modifier.
pub pattern_opens : (rules : Expression) → IsNumbered rules → (p : ℕ) → IsPatternAt rules p → ¬ IsModifierAt rules p
pattern_opens rules numbered p pattern m = elim pattern.stands [
  | inl stands ↦ true_not_false (sym m.modifies ∙ ap is_modifier (one_action_at rules numbered p m.action (positive pattern.inside_it) m.stands stands))
  | inr stands ↦ true_not_false (sym m.modifies ∙ ap is_modifier (one_action_at rules numbered p m.action (negative pattern.inside_it) m.stands stands))
]

-- Where a pattern stands, the kind tells so, and where a modifier stands.
pub pattern_kind : (rules : Expression) → IsNumbered rules → (p : ℕ) (kind : Kind) → IsKind rules p kind → IsPatternAt rules p → kind ≡ Pattern
pattern_kind rules numbered p OnEither is pattern = absurd (no_pattern rules numbered p (on is.0) is.1 refl pattern)
pattern_kind rules numbered p Modifier is pattern = absurd (pattern_opens rules numbered p pattern is)
pattern_kind rules numbered p Pattern is pattern = refl
pattern_kind rules numbered p OnOne is pattern = absurd (no_pattern rules numbered p (on is.0) is.1 refl pattern)
pattern_kind rules numbered p Comparison is pattern = absurd (comparison_plain rules numbered p is pattern)
pattern_kind rules numbered p Plain is pattern = absurd (is.1 pattern)

pub modifier_kind : (rules : Expression) → IsNumbered rules → (p : ℕ) (kind : Kind) → IsKind rules p kind → IsModifierAt rules p → kind ≡ Modifier
modifier_kind rules numbered p OnEither is modifier = absurd (no_modifier rules numbered p (on is.0) is.1 refl modifier)
modifier_kind rules numbered p Modifier is modifier = refl
modifier_kind rules numbered p Pattern is modifier = absurd (pattern_opens rules numbered p is modifier)
modifier_kind rules numbered p OnOne is modifier = absurd (no_modifier rules numbered p (on is.0) is.1 refl modifier)
modifier_kind rules numbered p Comparison is modifier = absurd (comparison_quiet rules numbered p is modifier)
modifier_kind rules numbered p Plain is modifier = absurd (is.0 modifier)

-- No action stands at position 0.
pub zero_kind : (rules : Expression) → IsNumbered rules → IsKind rules 0 Plain
zero_kind rules numbered = (
  λ modifier. not_zero (action_within rules numbered 0 modifier.action modifier.stands).0,
  λ pattern. by_pattern pattern,
  λ wanted stands. not_zero (action_within rules numbered 0 (on wanted) stands).0,
  λ is. not_zero (action_within rules numbered 0 (comparison is.left is.relation is.right) is.stands).0,
)
  where
    not_zero : 0 < 0 → ⊥
    not_zero h = omega (arith, h)

    by_pattern : IsPatternAt rules 0 → ⊥
    by_pattern pattern = elim pattern.stands [
      | inl is ↦ not_zero (action_within rules numbered 0 (positive pattern.inside_it) is).0
      | inr is ↦ not_zero (action_within rules numbered 0 (negative pattern.inside_it) is).0
    ]

pub zero_facts : (rules : Expression) → IsNumbered rules → (told : Facts) → HasNoPieces Plain false told → AreShown rules 0 told
zero_facts rules numbered told is = no_pieces rules 0 Plain false told is (λ e. cc) (zero_kind rules numbered) (not_sure rules 0)

-- A modifier that is sure is valid everywhere.
pub sure_keeps : (game : AbstractGame) (s : AbstractState) (p : ℕ) → IsSureAt game.rules p → Keeps game s p
sure_keeps game s p sure = elim sure.stands [
  | inl is ↦ record {
    modifies = record { action = off is.0; stands = is.1; modifies = refl };
    valid = λ v. (_, record { action = off is.0; stands = is.1; acts = refl });
  }
  | inr is ↦ record {
    modifies = record { action = switch is.0; stands = is.1; modifies = refl };
    valid = λ v. (_, record { action = switch is.0; stands = is.1; acts = refl });
  }
]

-- Where an on stands, the program's action is one.
pub other_never : (rules : Expression) → IsNumbered rules → (p : ℕ) (i : Action) → IsActionAt rules p i → ((pieces : _) → ¬ (i ≡ On pieces)) → (wanted : List ℕ) → ¬ HasAction rules p (on wanted)
other_never rules numbered p (Shift d) stands none = no_on_of rules numbered p (shift d) stands refl
other_never rules numbered p (On pieces) stands none = absurd (none pieces refl)
other_never rules numbered p (Off x) stands none = no_on_of rules numbered p (off x) stands refl
other_never rules numbered p (Assign v e) stands none = no_on_of rules numbered p _ stands refl
other_never rules numbered p (Compare e r f) stands none = no_on_of rules numbered p _ stands refl
other_never rules numbered p (Switch n) stands none = no_on_of rules numbered p (switch n) stands refl
other_never rules numbered p Positive (x, stands) none = no_on_of rules numbered p (positive x) stands refl
other_never rules numbered p Negative (x, stands) none = no_on_of rules numbered p (negative x) stands refl
