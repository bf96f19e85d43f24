-- How a flat part that is being found goes on by the sets that hold it.
use Rattle.rbg_base.proofs.Common.{◌≡◌, ℕ, ◌+◌, ◌*◌, ◌/◌, ◌%◌, ◌<◌, ◌≤◌, ◌⊎◌, inl, inr, List, Bool, true, false, get_or, refl, sym, subst, arith, bit_at, IsTrue, ◌↔◌, bit_at-zero, ℕ_discrete, cases_lt}
use Rattle.rbg_flat.proofs.Common.{Way, IsFirstLead, EndsFirst, IsToTry, Holds, first, IsBegun, LearnsEnd, SetsOfVertices, IsMarked, IsOpen, IsInWord, Meets, ClosesWord, HasBitAt, weight}
use Rattle.rbg_rules.specs.Meaning.{shift, on, off, assignment, comparison, switch, positive, negative, Expression, IsStart, IsActionAt, arithmetic_of, IsGame, AbstractGame, AbstractState, IsStateOf, Start, after}
use Rattle.rbg_rules.specs.declared.rule.Action.{Action}
use Rattle.rbg_rules.specs.declared.rule.Action.TheVariants.{Shift, On, Off, Assign, Compare, Switch, Positive, Negative}
use Rattle.rbg_flat.proofs.ToTry.{holds_to_try}

-- Where nothing was marked, what one is led to first begins.
pub begins : (way : Way) (game : AbstractGame) → IsGame game → (s : AbstractState) → IsStateOf game s → (f : Start) (old new : SetsOfVertices) (ends : Bool) → ((v p : ℕ) → ¬ IsMarked old v p) → ((v p : ℕ) → ¬ IsOpen old v p) → Meets old new (λ v p. IsFirstLead way game f s.vertex p v) (IsToTry game s) → LearnsEnd false ends (EndsFirst way game f s.vertex) → IsBegun way game s f (IsMarked new) (IsOpen new) ends
begins way game lawful s fits f old new ends none nothing_open meets learns = record {
  sound = λ v p has. first (leap_of v p (meets.only v p has)).0;
  begun = λ v p leap. meets.met v p leap;
  closed = λ v q u p has closed is_so leap. absurd (closed (opened v q has is_so));
  to_try = λ v p has. open_of v p (meets.no_other v p has);
  sound_end = λ told. inl (end_of (learns.only told));
  begun_end = learns.all;
  closed_end = λ v q has closed is_so end. absurd (closed (opened v q has is_so));
}
  where
    leap_of : (v p : ℕ) → IsMarked old v p ⊎ (IsFirstLead way game f s.vertex p v × (IsToTry game s v p → IsOpen new v p)) → IsFirstLead way game f s.vertex p v × (IsToTry game s v p → IsOpen new v p)
    leap_of v p (inl was) = absurd (none v p was)
    leap_of v p (inr is) = is

    opened : (v p : ℕ) → IsMarked new v p → Holds game s v p → IsOpen new v p
    opened v p has is_so =
        let leap = leap_of v p (meets.only v p has) in
        leap.1 (holds_to_try way game lawful s fits f v p (first leap.0) is_so)

    open_of : (v p : ℕ) → IsOpen old v p ⊎ (IsFirstLead way game f s.vertex p v × IsToTry game s v p × (¬ IsMarked old v p)) → IsToTry game s v p
    open_of v p (inl was) = absurd (nothing_open v p was)
    open_of v p (inr (_, opens, _)) = opens

    false_not_true : false ≡ true → ⊥
    false_not_true e = cc

    end_of : (false ≡ true) ⊎ EndsFirst way game f s.vertex → EndsFirst way game f s.vertex
    end_of (inl no_end) = absurd (false_not_true no_end)
    end_of (inr end) = end

-- Whether a bit is set is decided.
pub bit_decided : (columns : ℕ) (words : List ℕ) (v p : ℕ) → HasBitAt columns words v p ⊎ ¬ HasBitAt columns words v p
bit_decided columns words v p = elim (cases_lt (v / 64) columns) [
  | inl below ↦ elim (ℕ_discrete (bit_at (get_or words (p * columns + v / 64) 0) (v % 64)) 1) [
    | yes set ↦ inl (record { column = below; set = set })
    | no clear ↦ inr (λ has. clear has.set)
  ]
  | inr far ↦ inr (λ has. no_less far has.column)
]
  where
    no_less : columns ≤ v / 64 → v / 64 < columns → ⊥
    no_less far below = omega (arith, far, below)

-- An action of the program stands where one may go on.
pub goes_on : (rules : Expression) (p : ℕ) (i : Action) → IsActionAt rules p i → IsStart rules (after p)
goes_on rules p (Shift d) stands = (shift d, stands)
goes_on rules p (On pieces) stands = (on pieces.items, stands)
goes_on rules p (Off x) stands = (off x, stands)
goes_on rules p (Assign v e) stands = (assignment v (arithmetic_of e), stands)
goes_on rules p (Compare e r f) stands = (comparison (arithmetic_of e) r (arithmetic_of f), stands)
goes_on rules p (Switch n) stands = (switch n, stands)
goes_on rules p Positive (x, stands) = (positive x, stands)
goes_on rules p Negative (x, stands) = (negative x, stands)

-- After a word that was closed, less is left to be done, whatever is led on from.
pub lead_less : (old middle new : SetsOfVertices) (q c word : ℕ) → ClosesWord old middle q c word → weight new ≤ weight middle → (v : ℕ) → IsOpen old v q → IsInWord q c word v q → weight new < weight old
lead_less old middle new q c word closing lighter v is there = let less = closing.less v is there in omega (arith, less, lighter)

true_not_false : true ≡ false → ⊥
true_not_false e = cc

-- A bit of a word is held where what was asked is so.
pub held_by : (valid : Bool) (held word b : ℕ) (A : Type 0) → IsTrue valid ↔ A → (valid ≡ true → held ≡ word) → (valid ≡ false → held ≡ 0) → bit_at word b ≡ 1 → (bit_at held b ≡ 1) ↔ A
held_by true held word b A told whole none set = (λ _. told.0 refl, λ _. subst (λ (k : ℕ). bit_at k b ≡ 1) (sym (whole refl)) set)
held_by false held word b A told whole none set = (
  λ has. let clear : bit_at held b ≡ 0 = subst (λ (k : ℕ). bit_at k b ≡ 0) (sym (none refl)) (bit_at-zero b) in absurd (omega (arith, has, clear)),
  λ is. absurd (true_not_false (sym (told.1 is))),
)

-- What holds at a vertex holds at the same one.
pub holds_same : (game : AbstractGame) (s : AbstractState) (v p u : ℕ) (A : Type 0) → u ≡ v → A ↔ Holds game s v p → A ↔ Holds game s u p
holds_same game s v p u A same told = subst (λ (w : ℕ). A ↔ Holds game s w p) (sym same) told
