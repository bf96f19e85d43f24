-- The words of sequences, sums and stars, by their parts.
use Rattle.rbg_base.proofs.Common.{◌≡◌, ℕ, zero, suc, List, [], ◌∷◌, ◌++◌, refl, sym, ap, ◌∙◌, subst, ◌⊎◌, inl, inr, append_assoc, arith, Some, slice_get, All, fold, concat}
use Rattle.std.proofs.lemmas.List.{append-nil}
use Rattle.rbg_rules.specs.Expression.{Expression, skip, sequence, fail, choice, sequence_of, choice_of}
use Rattle.rbg_rules.specs.Words.{Word, Repeats, done, again}
use Rattle.rbg_rules.specs.Laws.{IsJoinOfWords, SequenceLaw, SumLaw, StarLaw}

-- The words of parts that follow a first expression.
abbrev FollowsOn : Expression → List Expression → List ℕ → Type 0
FollowsOn first parts w = (u : List ℕ) × (v : List ℕ) × Word first u × IsJoinOfWords parts v × (w ≡ u ++ v)

sequence_parts : (first : Expression) (parts : List Expression) (w : List ℕ) → Word (fold sequence first parts) w → FollowsOn first parts w
sequence_parts first [] w word = (w, [], word, refl, sym (append-nil w))
sequence_parts first (x ∷ parts) w word =
    let (u, v, (a, b, in_first, in_x, e), rest, f) = sequence_parts (sequence first x) parts w word in
    (a, b ++ v, in_first, (b, v, in_x, rest, refl), f ∙ ap (λ (z : List ℕ). z ++ v) e ∙ append_assoc a b v)

sequence_join : (first : Expression) (parts : List Expression) (w : List ℕ) → FollowsOn first parts w → Word (fold sequence first parts) w
sequence_join first [] w (u, v, in_first, none, e) = subst (Word first) (sym (e ∙ ap (λ (z : List ℕ). u ++ z) none ∙ append-nil u)) in_first
sequence_join first (x ∷ parts) w (u, v, in_first, (a, b, in_x, rest, f), e) =
    sequence_join (sequence first x) parts w (u ++ a, b, (u, a, in_first, in_x, refl), rest, e ∙ ap (λ (z : List ℕ). u ++ z) f ∙ sym (append_assoc u a b))

pub sequence_law : SequenceLaw
sequence_law parts w = (to, from)
  where
    to : Word (sequence_of parts) w → IsJoinOfWords parts w
    to word =
        let (u, v, none, rest, e) = sequence_parts skip parts w word in
        subst (IsJoinOfWords parts) (sym (e ∙ ap (λ (z : List ℕ). z ++ v) none)) rest

    from : IsJoinOfWords parts w → Word (sequence_of parts) w
    from rest = sequence_join skip parts w ([], w, refl, rest, refl)

-- A word of one of several parts, by its place among them.
abbrev IsWordOfOne : List Expression → List ℕ → Type 0
IsWordOfOne parts w = (k : ℕ) × (x : Expression) × (slice_get parts k ≡ Some x) × Word x w

choice_parts : (first : Expression) (parts : List Expression) (w : List ℕ) → Word (fold choice first parts) w → Word first w ⊎ IsWordOfOne parts w
choice_parts first [] w word = inl word
choice_parts first (x ∷ parts) w word = elim (choice_parts (choice first x) parts w word) [
  | inl here ↦ elim here [ inl in_first ↦ inl in_first | inr in_x ↦ inr (0, x, refl, in_x) ]
  | inr (k, y, at, in_y) ↦ inr (suc k, y, at, in_y)
]

choice_first : (first : Expression) (parts : List Expression) (w : List ℕ) → Word first w → Word (fold choice first parts) w
choice_first first [] w word = word
choice_first first (x ∷ parts) w word = choice_first (choice first x) parts w (inl word)

choice_one : (first : Expression) (parts : List Expression) (w : List ℕ) (k : ℕ) (x : Expression) → slice_get parts k ≡ Some x → Word x w → Word (fold choice first parts) w
choice_one first [] w k x at word = absurd (cc at)
choice_one first (y ∷ parts) w zero x at word = let same : x ≡ y = cc in choice_first (choice first y) parts w (inr (subst (λ (z : Expression). Word z w) same word))
choice_one first (y ∷ parts) w (suc k) x at word = choice_one (choice first y) parts w k x at word

pub sum_law : SumLaw
sum_law parts w = (to, (λ (k, x, at, word). choice_one fail parts w k x at word))
  where
    to : Word (choice_of parts) w → IsWordOfOne parts w
    to word = elim (choice_parts fail parts w word) [ inl none ↦ absurd none | inr one ↦ one ]

star_parts : {Language : List ℕ → Type 0} {w : List ℕ} → Repeats Language w → (ws : List (List ℕ)) × All Language ws × (concat ws ≡ w)
star_parts done = ([], (λ k d h. absurd (omega arith)), refl)
star_parts {Language} (again {u} {v} word more) =
    let (ws, each, e) = star_parts more in
    (u ∷ ws, each_of ws each, ap (λ (z : List ℕ). u ++ z) e)
  where
    each_of : (ws : List (List ℕ)) → All Language ws → All Language (u ∷ ws)
    each_of ws each zero d h = word
    each_of ws each (suc k) d h = each k d (omega arith)

star_join : {Language : List ℕ → Type 0} (ws : List (List ℕ)) → All Language ws → Repeats Language (concat ws)
star_join [] each = done
star_join (u ∷ ws) each = again (each 0 [] (omega arith)) (star_join ws (λ k d h. each (suc k) d (omega arith)))

pub star_law : StarLaw
star_law x w = (star_parts, (λ (ws, each, e). subst (Repeats (Word x)) e (star_join ws each)))
