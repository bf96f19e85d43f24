-- What is laid at a position is what comes after it in the words.
use Rattle.std.proofs.Common.{◌≡◌, ℕ, List, [], ◌∷◌, ◌++◌, refl, sym, ◌∙◌, subst, inl, inr, ◌⊎◌, Bool, true, append_assoc, ◌&&◌}
use Rattle.std.proofs.lemmas.List.{append-nil}
use Rattle.rbg_rules.specs.Meaning.{AbstractAction, Expression, act, skip, sequence, fail, choice, star, positions_of, HasOwnAction, HasNoEmptySum, Word, Repeats, done, again}
use Rattle.rbg_rules.proofs.CutLemmas.{Cut, in_first, in_second, cut_at, single, word_position}
use Rattle.rbg_rules.proofs.PositionLemmas.{Among, has_position}
use Rattle.rbg_rules.proofs.PatternLemmas.{own_is_action}
use Rattle.rbg_rules.proofs.StateLemmas.{word_law}
use Rattle.rbg_auto.specs.internal.Orders.{Ascends, IsUnion}
use Rattle.rbg_auto.specs.internal.Firsts.{may_be_empty, past, firsts}
use Rattle.rbg_auto.specs.internal.Laying.{Laid, IsLaid}
use Rattle.rbg_auto.proofs.OrderLemmas.{Ascends_left, Ascends_right, Ascends_apart}
use Rattle.rbg_auto.proofs.CutLemmas.{Through, through}
use Rattle.rbg_auto.proofs.FirstLemmas.{Begins, empty_word, may_be_empty_by, past_member, member_past, star_begins, begins_among, among_begins, Ascends-firsts, Ascends-past, both, left_of, right_of}

-- j comes directly after i in some word, and some word ends with i.
abbrev pub Neighbours : Expression → ℕ → ℕ → Type 0
Neighbours x i j = (u : List ℕ) × (v : List ℕ) × Word x (u ++ i ∷ j ∷ v)

abbrev pub EndsWith : Expression → ℕ → Type 0
EndsWith x i = (u : List ℕ) × Word x (u ++ i ∷ [])

-- What comes after i if k comes after the expression.
abbrev ComesAfter : Expression → List ℕ → ℕ → ℕ → Type 0
ComesAfter x k i j = Neighbours x i j ⊎ (EndsWith x i × Among j k)

-- The answer at i is right for the words.
pub record IsRight (laid : Laid) (x : Expression) (k : List ℕ) (end : Bool) (i : ℕ) : Type 0 where
  pub order : Ascends laid.next
  pub to : (j : ℕ) → Among j laid.next → ComesAfter x k i j
  pub from : (j : ℕ) → ComesAfter x k i j → Among j laid.next
  pub ends : laid.may_end ≡ true → EndsWith x i × (end ≡ true)
  pub ended : EndsWith x i → end ≡ true → laid.may_end ≡ true

own_among : (x : Expression) (i : ℕ) (a : AbstractAction) → HasOwnAction x i a → Among i (positions_of x)
own_among x i a own = has_position x i a (own_is_action x i a own)

no_neighbours : (u : List ℕ) (i j : ℕ) (v : List ℕ) (q : ℕ) → ¬ (u ++ i ∷ j ∷ v ≡ q ∷ [])
no_neighbours u i j v q e = let (_, none, _) = single u i (j ∷ v) q e in absurd (cc none)

-- Sequences, with i in the first part.
module _ (x y : Expression) (i : ℕ) (apart : ¬ Among i (positions_of y)) where
  neighbours_left : (w : List ℕ) → Word y w → (j : ℕ) → Neighbours x i j → Neighbours (sequence x y) i j
  neighbours_left w other j (u, v, word) = (u, v ++ w, (u ++ i ∷ j ∷ v, w, word, other, sym (append_assoc u (i ∷ j ∷ v) w)))

  neighbours_across : (j : ℕ) → EndsWith x i → Begins y j → Neighbours (sequence x y) i j
  neighbours_across j (u, word) (z, other) = (u, z, (u ++ i ∷ [], j ∷ z, word, other, sym (append_assoc u (i ∷ []) (j ∷ z))))

  neighbours_of_left : (j : ℕ) → Neighbours (sequence x y) i j → Neighbours x i j ⊎ (EndsWith x i × Begins y j)
  neighbours_of_left j (u, v, (a, b, in_x, in_y, e)) = by_cut (cut_at a b u i (j ∷ v) (sym e))
    where
      by_rest : (rest : List ℕ) → a ≡ u ++ i ∷ rest → j ∷ v ≡ rest ++ b → Neighbours x i j ⊎ (EndsWith x i × Begins y j)
      by_rest [] is later = inr ((u, subst (Word x) is in_x), (v, subst (Word y) (sym later) in_y))
      by_rest (k ∷ rest) is later = let same : k ≡ j = cc later in inl (u, rest, subst (λ (n : ℕ). Word x (u ++ i ∷ n ∷ rest)) same (subst (Word x) is in_x))

      by_cut : Cut a b u i (j ∷ v) → Neighbours x i j ⊎ (EndsWith x i × Begins y j)
      by_cut (in_first rest is later) = by_rest rest is later
      by_cut (in_second front is later) = absurd (apart (word_position y front i (j ∷ v) (subst (Word y) later in_y)))

  ends_left : EndsWith x i → may_be_empty y ≡ true → EndsWith (sequence x y) i
  ends_left (u, word) empty = (u, (u ++ i ∷ [], [], word, empty_word y empty, sym (append-nil (u ++ i ∷ []))))

  ends_of_left : EndsWith (sequence x y) i → EndsWith x i × (may_be_empty y ≡ true)
  ends_of_left (u, (a, b, in_x, in_y, e)) = by_cut (cut_at a b u i [] (sym e))
    where
      by_rest : (rest : List ℕ) → a ≡ u ++ i ∷ rest → [] ≡ rest ++ b → EndsWith x i × (may_be_empty y ≡ true)
      by_rest [] is later = ((u, subst (Word x) is in_x), may_be_empty_by y (subst (Word y) (sym later) in_y))
      by_rest (k ∷ rest) is later = absurd (cc later)

      by_cut : Cut a b u i [] → EndsWith x i × (may_be_empty y ≡ true)
      by_cut (in_first rest is later) = by_rest rest is later
      by_cut (in_second front is later) = absurd (apart (word_position y front i [] (subst (Word y) later in_y)))

-- Sequences, with i in the second part.
module _ (x y : Expression) (i : ℕ) (apart : ¬ Among i (positions_of x)) where
  neighbours_right : (w : List ℕ) → Word x w → (j : ℕ) → Neighbours y i j → Neighbours (sequence x y) i j
  neighbours_right w other j (u, v, word) = (w ++ u, v, (w, u ++ i ∷ j ∷ v, other, word, append_assoc w u (i ∷ j ∷ v)))

  neighbours_of_right : (j : ℕ) → Neighbours (sequence x y) i j → Neighbours y i j
  neighbours_of_right j (u, v, (a, b, in_x, in_y, e)) = by_cut (cut_at a b u i (j ∷ v) (sym e))
    where
      by_cut : Cut a b u i (j ∷ v) → Neighbours y i j
      by_cut (in_first rest is later) = absurd (apart (word_position x u i rest (subst (Word x) is in_x)))
      by_cut (in_second front is later) = (front, v, subst (Word y) later in_y)

  ends_right : (w : List ℕ) → Word x w → EndsWith y i → EndsWith (sequence x y) i
  ends_right w other (u, word) = (w ++ u, (w, u ++ i ∷ [], other, word, append_assoc w u (i ∷ [])))

  ends_of_right : EndsWith (sequence x y) i → EndsWith y i
  ends_of_right (u, (a, b, in_x, in_y, e)) = by_cut (cut_at a b u i [] (sym e))
    where
      by_cut : Cut a b u i [] → EndsWith y i
      by_cut (in_first rest is later) = absurd (apart (word_position x u i rest (subst (Word x) is in_x)))
      by_cut (in_second front is later) = (front, subst (Word y) later in_y)

-- Stars.
once : (x : Expression) (w : List ℕ) → Word x w → Repeats (Word x) w
once x w word = subst (Repeats (Word x)) (append-nil w) (again word done)

neighbours_again : (x : Expression) (i j : ℕ) → EndsWith x i → Begins x j → Neighbours (star x) i j
neighbours_again x i j (u, word) (z, other) =
    (u, z, subst (Repeats (Word x)) (append_assoc u (i ∷ []) (j ∷ z)) (again word (once x (j ∷ z) other)))

neighbours_of_star : (x : Expression) (i j : ℕ) → Neighbours (star x) i j → Neighbours x i j ⊎ (EndsWith x i × Begins x j)
neighbours_of_star x i j (u, v, words) = found (through x words u i (j ∷ v) refl)
  where
    by_rest : (front rest later : List ℕ) → Word x (front ++ i ∷ rest) → Repeats (Word x) later → j ∷ v ≡ rest ++ later → Neighbours x i j ⊎ (EndsWith x i × Begins x j)
    by_rest front [] later word more is = inr ((front, word), star_begins x more j v (sym is))
    by_rest front (k ∷ rest) later word more is = let same : k ≡ j = cc is in inl (front, rest, subst (λ (n : ℕ). Word x (front ++ i ∷ n ∷ rest)) same word)

    found : Through x i (j ∷ v) → Neighbours x i j ⊎ (EndsWith x i × Begins x j)
    found one = by_rest one.front one.rest one.later one.word one.words_later one.is_rest

ends_of_star : (x : Expression) (i : ℕ) → EndsWith (star x) i → EndsWith x i
ends_of_star x i (u, words) = found (through x words u i [] refl)
  where
    by_rest : (front rest later : List ℕ) → Word x (front ++ i ∷ rest) → [] ≡ rest ++ later → EndsWith x i
    by_rest front [] later word is = (front, word)
    by_rest front (k ∷ rest) later word is = absurd (cc is)

    found : Through x i [] → EndsWith x i
    found one = by_rest one.front one.rest one.later one.word one.is_rest

-- The answers of the parts are the answers of the whole.
right_act : (at : ℕ → Laid) (q : ℕ) (b : AbstractAction) (k : List ℕ) (end : Bool) → Ascends k → (at q).next ≡ k → (at q).may_end ≡ end → IsRight (at q) (act q b) k end q
right_act at q b k end order is_next is_end = record {
  order = subst Ascends (sym is_next) order;
  to = λ j h. inr (([], refl), subst (Among j) is_next h);
  from = from;
  ends = λ e. (([], refl), sym is_end ∙ e);
  ended = λ _ e. is_end ∙ e;
}
  where
    from : (j : ℕ) → ComesAfter (act q b) k q j → Among j (at q).next
    from j (inl (u, v, word)) = absurd (no_neighbours u q j v q word)
    from j (inr (_, h)) = subst (Among j) (sym is_next) h

right_left : (laid : Laid) (x y : Expression) (k m : List ℕ) (end may_end : Bool) (i : ℕ) → HasNoEmptySum y → ¬ Among i (positions_of y) → IsUnion (firsts y) (past y k) m → may_end ≡ (may_be_empty y && end) → IsRight laid x m may_end i → IsRight laid (sequence x y) k end i
right_left laid x y k m end may_end i none apart union is_end right = record { order = right.order; to = to; from = from; ends = ends; ended = ended }
  where
    in_rest : (j : ℕ) → EndsWith x i → Among j (firsts y) ⊎ Among j (past y k) → ComesAfter (sequence x y) k i j
    in_rest j ends_x (inl first) = inl (neighbours_across x y i apart j ends_x (among_begins y none j first))
    in_rest j ends_x (inr later) = let (empty, there) = past_member y k j later in inr (ends_left x y i apart ends_x empty, there)

    by_left : (j : ℕ) → ComesAfter x m i j → ComesAfter (sequence x y) k i j
    by_left j (inl pair) = let (w, other) = word_law y none in inl (neighbours_left x y i apart w other j pair)
    by_left j (inr (ends_x, there)) = in_rest j ends_x ((union.exact j).0 there)

    to : (j : ℕ) → Among j laid.next → ComesAfter (sequence x y) k i j
    to j h = by_left j (right.to j h)

    of_pair : (j : ℕ) → Neighbours x i j ⊎ (EndsWith x i × Begins y j) → Among j laid.next
    of_pair j (inl pair) = right.from j (inl pair)
    of_pair j (inr (ends_x, begins)) = right.from j (inr (ends_x, (union.exact j).1 (inl (begins_among y j begins))))

    from : (j : ℕ) → ComesAfter (sequence x y) k i j → Among j laid.next
    from j (inl pair) = of_pair j (neighbours_of_left x y i apart j pair)
    from j (inr (ends_both, there)) =
        let (ends_x, empty) = ends_of_left x y i apart ends_both in
        right.from j (inr (ends_x, (union.exact j).1 (inr (member_past y k j empty there))))

    ends : laid.may_end ≡ true → EndsWith (sequence x y) i × (end ≡ true)
    ends e =
        let (ends_x, may) = right.ends e in
        let two : (may_be_empty y && end) ≡ true = sym is_end ∙ may in
        (ends_left x y i apart ends_x (left_of (may_be_empty y) end two), right_of (may_be_empty y) end two)

    ended : EndsWith (sequence x y) i → end ≡ true → laid.may_end ≡ true
    ended ends_both e =
        let (ends_x, empty) = ends_of_left x y i apart ends_both in
        right.ended ends_x (is_end ∙ both (may_be_empty y) end empty e)

right_right : (laid : Laid) (x y : Expression) (k : List ℕ) (end : Bool) (i : ℕ) → HasNoEmptySum x → ¬ Among i (positions_of x) → IsRight laid y k end i → IsRight laid (sequence x y) k end i
right_right laid x y k end i none apart right = record {
  order = right.order;
  to = λ j h. up j (right.to j h);
  from = λ j h. right.from j (down j h);
  ends = λ e. let (ends_y, may) = right.ends e in let (w, other) = word_law x none in (ends_right x y i apart w other ends_y, may);
  ended = λ ends_both e. right.ended (ends_of_right x y i apart ends_both) e;
}
  where
    up : (j : ℕ) → ComesAfter y k i j → ComesAfter (sequence x y) k i j
    up j (inl pair) = let (w, other) = word_law x none in inl (neighbours_right x y i apart w other j pair)
    up j (inr (ends_y, there)) = let (w, other) = word_law x none in inr (ends_right x y i apart w other ends_y, there)

    down : (j : ℕ) → ComesAfter (sequence x y) k i j → ComesAfter y k i j
    down j (inl pair) = inl (neighbours_of_right x y i apart j pair)
    down j (inr (ends_both, there)) = inr (ends_of_right x y i apart ends_both, there)

-- What is right for a part is right for the whole, if the words through a position are those of the part.
right_of_part : (laid : Laid) (whole part : Expression) (k : List ℕ) (end : Bool) (i : ℕ) → ((w : List ℕ) → Word part w → Word whole w) → ((u v : List ℕ) → Word whole (u ++ i ∷ v) → Word part (u ++ i ∷ v)) → IsRight laid part k end i → IsRight laid whole k end i
right_of_part laid whole part k end i into back right = record {
  order = right.order;
  to = λ j h. up j (right.to j h);
  from = λ j h. right.from j (down j h);
  ends = λ e. let ((u, word), may) = right.ends e in ((u, into (u ++ i ∷ []) word), may);
  ended = λ (u, word) e. right.ended (u, back u [] word) e;
}
  where
    up : (j : ℕ) → ComesAfter part k i j → ComesAfter whole k i j
    up j (inl (u, v, word)) = inl (u, v, into (u ++ i ∷ j ∷ v) word)
    up j (inr ((u, word), there)) = inr ((u, into (u ++ i ∷ []) word), there)

    down : (j : ℕ) → ComesAfter whole k i j → ComesAfter part k i j
    down j (inl (u, v, word)) = inl (u, v, back u (j ∷ v) word)
    down j (inr ((u, word), there)) = inr ((u, back u [] word), there)

right_alone : (laid : Laid) (x y z : Expression) (k : List ℕ) (end : Bool) (i : ℕ) → ((w : List ℕ) → Word y w → Word x w) → ((w : List ℕ) → Word x w → Word y w ⊎ Word z w) → ¬ Among i (positions_of z) → IsRight laid y k end i → IsRight laid x k end i
right_alone laid x y z k end i into apart_from apart = right_of_part laid x y k end i into
    (λ u v word. elim (apart_from (u ++ i ∷ v) word) [ inl here ↦ here | inr there ↦ absurd (apart (word_position z u i v there)) ])

right_one : (laid : Laid) (x y : Expression) (k : List ℕ) (end : Bool) (i : ℕ) → ¬ Among i (positions_of y) → IsRight laid x k end i → IsRight laid (choice x y) k end i
right_one laid x y k end i = right_alone laid (choice x y) x y k end i (λ w word. inl word) (λ w word. word)

right_other : (laid : Laid) (x y : Expression) (k : List ℕ) (end : Bool) (i : ℕ) → ¬ Among i (positions_of x) → IsRight laid y k end i → IsRight laid (choice x y) k end i
right_other laid x y k end i = right_alone laid (choice x y) y x k end i (λ w word. inr word) (λ w word. elim word [ inl first ↦ inr first | inr second ↦ inl second ])

right_star : (laid : Laid) (x : Expression) (k m : List ℕ) (end : Bool) (i : ℕ) → HasNoEmptySum x → IsUnion (firsts x) k m → IsRight laid x m end i → IsRight laid (star x) k end i
right_star laid x k m end i none union right = record {
  order = right.order;
  to = λ j h. up j (right.to j h);
  from = from;
  ends = λ e. let ((u, word), may) = right.ends e in ((u, once x (u ++ i ∷ []) word), may);
  ended = λ ends_star e. right.ended (ends_of_star x i ends_star) e;
}
  where
    in_rest : (j : ℕ) → EndsWith x i → Among j (firsts x) ⊎ Among j k → ComesAfter (star x) k i j
    in_rest j ends_x (inl first) = inl (neighbours_again x i j ends_x (among_begins x none j first))
    in_rest j (u, word) (inr later) = inr ((u, once x (u ++ i ∷ []) word), later)

    up : (j : ℕ) → ComesAfter x m i j → ComesAfter (star x) k i j
    up j (inl (u, v, word)) = inl (u, v, once x (u ++ i ∷ j ∷ v) word)
    up j (inr (ends_x, there)) = in_rest j ends_x ((union.exact j).0 there)

    of_pair : (j : ℕ) → Neighbours x i j ⊎ (EndsWith x i × Begins x j) → Among j laid.next
    of_pair j (inl pair) = right.from j (inl pair)
    of_pair j (inr (ends_x, begins)) = right.from j (inr (ends_x, (union.exact j).1 (inl (begins_among x j begins))))

    from : (j : ℕ) → ComesAfter (star x) k i j → Among j laid.next
    from j (inl pair) = of_pair j (neighbours_of_star x i j pair)
    from j (inr (ends_star, there)) = right.from j (inr (ends_of_star x i ends_star, (union.exact j).1 (inr there)))

-- What is laid at each own position of an expression is right.
pub right : (at : ℕ → Laid) (x : Expression) → HasNoEmptySum x → Ascends (positions_of x) → (k : List ℕ) → Ascends k → (end : Bool) → IsLaid at x k end → (i : ℕ) (a : AbstractAction) → HasOwnAction x i a → IsRight (at i) x k end i
right at (act q b) none order k up end (is_next, is_end, _) i a (here, _) =
    subst (λ (n : ℕ). IsRight (at n) (act q b) k end n) (sym here) (right_act at q b k end up is_next is_end)
right at skip none order k up end laid i a own = absurd own
right at (sequence x y) none order k up end (m, may_end, before, in_x, in_y) i a (inl own) =
    let order_x = Ascends_left (positions_of x) (positions_of y) order in
    let order_y = Ascends_right (positions_of x) (positions_of y) order in
    let union = before.positions (Ascends-firsts y order_y) (Ascends-past y k up) in
    right_left (at i) x y k m end may_end i none.1 (Ascends_apart (positions_of x) (positions_of y) order i (own_among x i a own)) union before.ends
    (right at x none.0 order_x m union.order may_end in_x i a own)
right at (sequence x y) none order k up end (m, may_end, before, in_x, in_y) i a (inr own) =
    right_right (at i) x y k end i none.0 (λ h. Ascends_apart (positions_of x) (positions_of y) order i h (own_among y i a own))
    (right at y none.1 (Ascends_right (positions_of x) (positions_of y) order) k up end in_y i a own)
right at fail none order k up end laid i a own = absurd own
right at (choice x y) none order k up end (in_x, in_y) i a (inl own) = elim none.0 [
  | inl failed ↦ absurd (subst (λ (z : Expression). HasOwnAction z i a) failed own)
  | inr kept ↦
      right_one (at i) x y k end i (Ascends_apart (positions_of x) (positions_of y) order i (own_among x i a own))
      (right at x kept (Ascends_left (positions_of x) (positions_of y) order) k up end in_x i a own)
]
right at (choice x y) none order k up end (in_x, in_y) i a (inr own) =
    right_other (at i) x y k end i (λ h. Ascends_apart (positions_of x) (positions_of y) order i h (own_among y i a own))
    (right at y none.1 (Ascends_right (positions_of x) (positions_of y) order) k up end in_y i a own)
right at (star x) none order k up end (m, joins, in_x) i a own =
    let union = joins (Ascends-firsts x order) up in
    right_star (at i) x k m end i none union (right at x none order m union.order end in_x i a own)
