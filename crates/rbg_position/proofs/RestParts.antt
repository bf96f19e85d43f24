-- The parts of a rest: what is left after an action of one of them is a rest, too.
use Rattle.std.proofs.Common.{◌≡◌, ℕ, List, [], ◌∷◌, ◌++◌, ◌⊎◌, refl, sym, ap, ◌∙◌, subst, inl, inr, append_assoc, append-nil}
use Rattle.rbg_rules.specs.Meaning.{AbstractAction, Expression, act, skip, sequence, fail, choice, star, HasOwnAction, IsJoinOfWords}
use Rattle.rbg_rules.proofs.PositionLemmas.{Among, Among_cases}
use Rattle.rbg_rules.proofs.PatternLemmas.{word_own}
use Rattle.rbg_position.specs.Rest.{IsRest}

-- The part is in the list, with these parts after it.
abbrev pub IsPart : List Expression → Expression → List Expression → Type 0
IsPart [] y later = ⊥
IsPart (x ∷ xs) y later = ((y ≡ x) × (later ≡ xs)) ⊎ IsPart xs y later

-- A part of a list with one more is a part of the list, or is that one.
abbrev EarlierOrLast : List Expression → Expression → Expression → List Expression → Type 0
EarlierOrLast xs z y later =
    ((left : List Expression) × IsPart xs y left × (later ≡ left ++ z ∷ []))
    ⊎ ((y ≡ z) × (later ≡ []))

earlier_or_last : (xs : List Expression) (z y : Expression) (later : List Expression) → IsPart (xs ++ z ∷ []) y later → EarlierOrLast xs z y later
earlier_or_last [] z y later (inl last) = inr last
earlier_or_last [] z y later (inr none) = absurd none
earlier_or_last (x ∷ xs) z y later (inl (same, e)) = inl (xs, inl (same, refl), e)
earlier_or_last (x ∷ xs) z y later (inr part) = elim (earlier_or_last xs z y later part) [
  | inl (left, is, e) ↦ inl (left, inr is, e)
  | inr last ↦ inr last
]

-- .. of a rest that has one more part.
last_part : (left : List Expression) (z : Expression) (rest : List Expression) → rest ≡ left ++ z ∷ [] → (y : Expression) (later : List Expression) → IsPart rest y later → EarlierOrLast left z y later
last_part left z rest e y later part = earlier_or_last left z y later (subst (λ (r : List Expression). IsPart r y later) e part)

no_part : (rest : List Expression) → rest ≡ [] → (y : Expression) (later : List Expression) → ¬ IsPart rest y later
no_part rest none y later part = subst (λ (r : List Expression). IsPart r y later) none part

-- What is left of a part, and the parts after it, is the rest after an action of that part.
pub rest_within : (x : Expression) (p : ℕ) (rest : List Expression) → IsRest x p rest → (y : Expression) (later : List Expression) → IsPart rest y later → (q : ℕ) (more : List Expression) → IsRest y q more → IsRest x q (more ++ later)
rest_within (act r b) p rest (_, none) y later part q more inner = absurd (no_part rest none y later part)
rest_within skip p rest is y later part q more inner = absurd is
rest_within (sequence x z) p rest (inl (left, is, e)) y later part q more inner = elim (last_part left z rest e y later part) [
  | inl (behind, earlier, f) ↦
      inl (more ++ behind, rest_within x p left is y behind earlier q more inner, ap (λ (l : List Expression). more ++ l) f ∙ sym (append_assoc more behind (z ∷ [])))
  | inr (same, none) ↦
      inr (subst (IsRest z q) (sym (ap (λ (l : List Expression). more ++ l) none ∙ append-nil more)) (subst (λ (v : Expression). IsRest v q more) same inner))
]
rest_within (sequence x z) p rest (inr is) y later part q more inner = inr (rest_within z p rest is y later part q more inner)
rest_within fail p rest is y later part q more inner = absurd is
rest_within (choice x z) p rest (inl is) y later part q more inner = inl (rest_within x p rest is y later part q more inner)
rest_within (choice x z) p rest (inr is) y later part q more inner = inr (rest_within z p rest is y later part q more inner)
rest_within (star x) p rest (left, is, e) y later part q more inner = elim (last_part left (star x) rest e y later part) [
  | inl (behind, earlier, f) ↦
      (more ++ behind, rest_within x p left is y behind earlier q more inner, ap (λ (l : List Expression). more ++ l) f ∙ sym (append_assoc more behind (star x ∷ [])))
  | inr (same, none) ↦
      subst (IsRest (star x) q) (sym (ap (λ (l : List Expression). more ++ l) none ∙ append-nil more)) (subst (λ (v : Expression). IsRest v q more) same inner)
]

-- An own action of a part of the rest is an own action of the whole.
pub own_within : (x : Expression) (p : ℕ) (rest : List Expression) → IsRest x p rest → (y : Expression) (later : List Expression) → IsPart rest y later → (q : ℕ) (a : AbstractAction) → HasOwnAction y q a → HasOwnAction x q a
own_within (act r b) p rest (_, none) y later part q a own = absurd (no_part rest none y later part)
own_within skip p rest is y later part q a own = absurd is
own_within (sequence x z) p rest (inl (left, is, e)) y later part q a own = elim (last_part left z rest e y later part) [
  | inl (behind, earlier, _) ↦ inl (own_within x p left is y behind earlier q a own)
  | inr (same, _) ↦ inr (subst (λ (v : Expression). HasOwnAction v q a) same own)
]
own_within (sequence x z) p rest (inr is) y later part q a own = inr (own_within z p rest is y later part q a own)
own_within fail p rest is y later part q a own = absurd is
own_within (choice x z) p rest (inl is) y later part q a own = inl (own_within x p rest is y later part q a own)
own_within (choice x z) p rest (inr is) y later part q a own = inr (own_within z p rest is y later part q a own)
own_within (star x) p rest (left, is, e) y later part q a own = elim (last_part left (star x) rest e y later part) [
  | inl (behind, earlier, _) ↦ own_within x p left is y behind earlier q a own
  | inr (same, _) ↦ subst (λ (v : Expression). HasOwnAction v q a) same own
]

-- An own action of a part.
pub record OwnOfPart (parts : List Expression) (q : ℕ) : Type 0 where
  pub part : Expression
  pub later : List Expression
  pub is_part : IsPart parts part later
  pub action : AbstractAction
  pub own : HasOwnAction part q action

-- Each position of a word of the parts is that of an own action of a part.
pub joined_own : (parts : List Expression) (w : List ℕ) → IsJoinOfWords parts w → (q : ℕ) → Among q w → OwnOfPart parts q
joined_own [] w none q among = absurd (subst (Among q) none among)
joined_own (x ∷ xs) w (u, v, word, join, e) q among = elim (Among_cases q u v (subst (Among q) e among)) [
  | inl left ↦ let (a, own) = word_own x u word q left in record { part = x; later = xs; is_part = inl (refl, refl); action = a; own = own }
  | inr right ↦
      let found = joined_own xs v join q right in
      record { part = found.part; later = found.later; is_part = inr found.is_part; action = found.action; own = found.own }
]
