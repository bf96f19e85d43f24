-- Expressions with other numbers: their own actions, their words and their rests.
use Rattle.std.proofs.Common.{◌≡◌, ℕ, List, [], ◌∷◌, ◌++◌, map, refl, sym, ap, ◌∙◌, subst, inl, inr, append-nil}
use Rattle.std.proofs.lemmas.List.{map-append}
use Rattle.rbg_rules.specs.Meaning.{AbstractAction, shift, on, off, assignment, comparison, switch, positive, negative, Expression, act, skip, sequence, fail, choice, star, HasOwnAction, IsJoinOfWords, Word, Repeats, done, again, is_modifier}
use Rattle.rbg_rules.proofs.PositionLemmas.{Among}
use Rattle.rbg_position.specs.Renumbering.{renumbered, renumbered_action}
use Rattle.rbg_position.specs.Rest.{IsRest}
use Rattle.rbg_position.proofs.RestParts.{IsPart}

-- A list that is made of another one by other numbers, cut in two.
pub map_split : (number : ℕ → ℕ) (whole u v : List ℕ) → u ++ v ≡ map number whole → (a : List ℕ) × (b : List ℕ) × (whole ≡ a ++ b) × (u ≡ map number a) × (v ≡ map number b)
map_split number whole [] v e = ([], whole, refl, refl, e)
map_split number [] (x ∷ u) v e = absurd (cc e)
map_split number (y ∷ whole) (x ∷ u) v e =
    let head : x ≡ number y = cc in
    let tail : u ++ v ≡ map number whole = cc in
    let (a, b, is, left, right) = map_split number whole u v tail in
    (y ∷ a, b, ap (λ (z : List ℕ). y ∷ z) is, cc (head, left), right)

pub among_map : (number : ℕ → ℕ) (w : List ℕ) (p : ℕ) → Among p w → Among (number p) (map number w)
among_map number [] p none = absurd none
among_map number (q ∷ w) p (inl same) = inl (ap number same)
among_map number (q ∷ w) p (inr more) = inr (among_map number w p more)

module _ (number : ℕ → ℕ) where
  pub same_modifier : (a : AbstractAction) → is_modifier (renumbered_action number a) ≡ is_modifier a
  same_modifier (shift d) = refl
  same_modifier (on xs) = refl
  same_modifier (off x) = refl
  same_modifier (assignment v e) = refl
  same_modifier (comparison e r f) = refl
  same_modifier (switch n) = refl
  same_modifier (positive x) = refl
  same_modifier (negative x) = refl

  pub own_renumbered : (x : Expression) (p : ℕ) (a : AbstractAction) → HasOwnAction x p a → HasOwnAction (renumbered number x) (number p) (renumbered_action number a)
  own_renumbered (act q b) p a (here, same) = (ap number here, ap (renumbered_action number) same)
  own_renumbered skip p a own = absurd own
  own_renumbered (sequence x y) p a (inl own) = inl (own_renumbered x p a own)
  own_renumbered (sequence x y) p a (inr own) = inr (own_renumbered y p a own)
  own_renumbered fail p a own = absurd own
  own_renumbered (choice x y) p a (inl own) = inl (own_renumbered x p a own)
  own_renumbered (choice x y) p a (inr own) = inr (own_renumbered y p a own)
  own_renumbered (star x) p a own = own_renumbered x p a own

  repeats_map : {Language Language' : List ℕ → Type 0} → ((u : List ℕ) → Language u → Language' (map number u)) → {w : List ℕ} → Repeats Language w → Repeats Language' (map number w)
  repeats_map each done = done
  repeats_map {Language'} each (again {u} {v} word more) =
      subst (Repeats Language') (sym (map-append number u v)) (again (each u word) (repeats_map each more))

  pub word_renumbered : (x : Expression) (w : List ℕ) → Word x w → Word (renumbered number x) (map number w)
  word_renumbered (act q b) w e = ap (map number) e
  word_renumbered skip w e = ap (map number) e
  word_renumbered (sequence x y) w (u, v, in_x, in_y, e) =
      (map number u, map number v, word_renumbered x u in_x, word_renumbered y v in_y, ap (map number) e ∙ map-append number u v)
  word_renumbered fail w none = absurd none
  word_renumbered (choice x y) w (inl word) = inl (word_renumbered x w word)
  word_renumbered (choice x y) w (inr word) = inr (word_renumbered y w word)
  word_renumbered (star x) w words = repeats_map (word_renumbered x) words

  -- A word that has these numbers in place of its own.
  abbrev Before : (List ℕ → Type 0) → List ℕ → Type 0
  Before Language w = (same : List ℕ) × Language same × (w ≡ map number same)

  repeats_back : {Language Language' : List ℕ → Type 0} → ((u : List ℕ) → Language' u → Before Language u) → {w : List ℕ} → Repeats Language' w → Before (Repeats Language) w
  repeats_back each done = ([], done, refl)
  repeats_back each (again {u} {v} word more) =
      let (a, in_one, e) = each u word in
      let (b, in_more, f) = repeats_back each more in
      (a ++ b, again in_one in_more, ap (λ (z : List ℕ). z ++ v) e ∙ ap (λ (z : List ℕ). map number a ++ z) f ∙ sym (map-append number a b))

  pub word_back : (x : Expression) (w : List ℕ) → Word (renumbered number x) w → (same : List ℕ) × Word x same × (w ≡ map number same)
  word_back (act q b) w e = (q ∷ [], refl, e)
  word_back skip w e = ([], refl, e)
  word_back (sequence x y) w (u, v, in_x, in_y, e) =
      let (a, word, is) = word_back x u in_x in
      let (b, word', is') = word_back y v in_y in
      (a ++ b, (a, b, word, word', refl), e ∙ ap (λ (z : List ℕ). z ++ v) is ∙ ap (λ (z : List ℕ). map number a ++ z) is' ∙ sym (map-append number a b))
  word_back fail w none = absurd none
  word_back (choice x y) w (inl word) = let (a, in_x, e) = word_back x w word in (a, inl in_x, e)
  word_back (choice x y) w (inr word) = let (a, in_y, e) = word_back y w word in (a, inr in_y, e)
  word_back (star x) w words = repeats_back (word_back x) words

  pub join_renumbered : (xs : List Expression) (w : List ℕ) → IsJoinOfWords xs w → IsJoinOfWords (map (renumbered number) xs) (map number w)
  join_renumbered [] w none = ap (map number) none
  join_renumbered (x ∷ xs) w (u, v, word, join, e) =
      (map number u, map number v, word_renumbered x u word, join_renumbered xs v join, ap (map number) e ∙ map-append number u v)

  pub join_back : (xs : List Expression) (w : List ℕ) → IsJoinOfWords (map (renumbered number) xs) w → (same : List ℕ) × IsJoinOfWords xs same × (w ≡ map number same)
  join_back [] w none = ([], refl, none)
  join_back (x ∷ xs) w (u, v, word, join, e) =
      let (a, in_x, is) = word_back x u word in
      let (b, in_xs, is') = join_back xs v join in
      (a ++ b, (a, b, in_x, in_xs, refl), e ∙ ap (λ (z : List ℕ). z ++ v) is ∙ ap (λ (z : List ℕ). map number a ++ z) is' ∙ sym (map-append number a b))

  pub rest_renumbered : (x : Expression) (p : ℕ) (rest : List Expression) → IsRest x p rest → IsRest (renumbered number x) (number p) (map (renumbered number) rest)
  rest_renumbered (act q b) p rest (here, none) = (ap number here, ap (map (renumbered number)) none)
  rest_renumbered skip p rest is = absurd is
  rest_renumbered (sequence x y) p rest (inl (left, is, e)) =
      inl (map (renumbered number) left, rest_renumbered x p left is, ap (map (renumbered number)) e ∙ map-append (renumbered number) left (y ∷ []))
  rest_renumbered (sequence x y) p rest (inr is) = inr (rest_renumbered y p rest is)
  rest_renumbered fail p rest is = absurd is
  rest_renumbered (choice x y) p rest (inl is) = inl (rest_renumbered x p rest is)
  rest_renumbered (choice x y) p rest (inr is) = inr (rest_renumbered y p rest is)
  rest_renumbered (star x) p rest (left, is, e) =
      (map (renumbered number) left, rest_renumbered x p left is, ap (map (renumbered number)) e ∙ map-append (renumbered number) left (star x ∷ []))

  pub part_renumbered : (xs : List Expression) (y : Expression) (later : List Expression) → IsPart xs y later → IsPart (map (renumbered number) xs) (renumbered number y) (map (renumbered number) later)
  part_renumbered [] y later none = absurd none
  part_renumbered (x ∷ xs) y later (inl (same, e)) = inl (ap (renumbered number) same, ap (map (renumbered number)) e)
  part_renumbered (x ∷ xs) y later (inr part) = inr (part_renumbered xs y later part)
