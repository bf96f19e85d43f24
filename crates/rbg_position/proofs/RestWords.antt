-- The words of the rest of the rules after an action.
use Rattle.std.proofs.Common.{◌≡◌, ◌↔◌, ℕ, List, [], ◌∷◌, ◌++◌, refl, sym, ap, ◌∙◌, subst, inl, inr, append_assoc, append-nil}
use Rattle.rbg_rules.specs.Meaning.{AbstractAction, Expression, act, skip, sequence, fail, choice, star, sequence_of, positions_of, HasOwnAction, HasNoEmptySum, IsNumbered, IsJoinOfWords, IsLevel, Level, outermost, Word, WordOf, Repeats, done, again, after, Follows, Ends}
use Rattle.rbg_rules.proofs.PositionLemmas.{Among, Among_right, AllDifferent, AllDifferent_left, AllDifferent_right, AllDifferent_apart, has_position, numbered_once}
use Rattle.rbg_rules.proofs.PatternLemmas.{own_is_action, word_own}
use Rattle.rbg_rules.proofs.CutLemmas.{in_first, in_second, cut_at, not_empty, single, word_position}
use Rattle.rbg_rules.proofs.LevelLemmas.{one_level_law}
use Rattle.rbg_rules.proofs.StateLemmas.{word_law}
use Rattle.rbg_rules.proofs.WordLemmas.{sequence_law}
use Rattle.rbg_position.specs.Laws.{RestLaw, SomeRestLaw}
use Rattle.rbg_position.specs.Rest.{IsRest}

-- Words of parts and then of further parts.
pub join_append : (xs ys : List Expression) (u v : List ℕ) → IsJoinOfWords xs u → IsJoinOfWords ys v → IsJoinOfWords (xs ++ ys) (u ++ v)
join_append [] ys u v none more = subst (λ (z : List ℕ). IsJoinOfWords ys (z ++ v)) (sym none) more
join_append (x ∷ xs) ys u v (a, b, word, rest, e) more =
    (a, b ++ v, word, join_append xs ys b v rest more, ap (λ (z : List ℕ). z ++ v) e ∙ append_assoc a b v)

pub join_split : (xs ys : List Expression) (w : List ℕ) → IsJoinOfWords (xs ++ ys) w → (u : List ℕ) × (v : List ℕ) × IsJoinOfWords xs u × IsJoinOfWords ys v × (w ≡ u ++ v)
join_split [] ys w join = ([], w, refl, join, refl)
join_split (x ∷ xs) ys w (a, b, word, rest, e) =
    let (u, v, left, right, f) = join_split xs ys b rest in
    (a ++ u, v, (a, u, word, left, refl), right, e ∙ ap (λ (z : List ℕ). a ++ z) f ∙ sym (append_assoc a u v))

-- A word of one part alone.
pub join_one : (x : Expression) (w : List ℕ) → Word x w → IsJoinOfWords (x ∷ []) w
join_one x w word = (w, [], word, refl, sym (append-nil w))

pub one_joined : (x : Expression) (w : List ℕ) → IsJoinOfWords (x ∷ []) w → Word x w
one_joined x w (a, b, word, none, e) = subst (Word x) (sym (e ∙ ap (λ (z : List ℕ). a ++ z) none ∙ append-nil a)) word

-- An action that has a rest is an own one.
pub rest_own : (x : Expression) (p : ℕ) (rest : List Expression) → IsRest x p rest → (a : AbstractAction) × HasOwnAction x p a
rest_own (act q b) p rest (e, none) = (b, (e, refl))
rest_own skip p rest is = absurd is
rest_own (sequence x y) p rest (inl (left, is, e)) = let own = rest_own x p left is in (own.0, inl own.1)
rest_own (sequence x y) p rest (inr is) = let own = rest_own y p rest is in (own.0, inr own.1)
rest_own fail p rest is = absurd is
rest_own (choice x y) p rest (inl is) = let own = rest_own x p rest is in (own.0, inl own.1)
rest_own (choice x y) p rest (inr is) = let own = rest_own y p rest is in (own.0, inr own.1)
rest_own (star x) p rest (left, is, e) = rest_own x p left is

rest_among : (x : Expression) (p : ℕ) (rest : List Expression) → IsRest x p rest → Among p (positions_of x)
rest_among x p rest is = let own = rest_own x p rest is in has_position x p own.0 (own_is_action x p own.0 own.1)

pub some_rest_law : SomeRestLaw
some_rest_law (act q b) p a (e, _) = ([], (e, refl))
some_rest_law skip p a own = absurd own
some_rest_law (sequence x y) p a (inl own) = let (left, is) = some_rest_law x p a own in (left ++ y ∷ [], inl (left, is, refl))
some_rest_law (sequence x y) p a (inr own) = let (rest, is) = some_rest_law y p a own in (rest, inr is)
some_rest_law fail p a own = absurd own
some_rest_law (choice x y) p a (inl own) = let (rest, is) = some_rest_law x p a own in (rest, inl is)
some_rest_law (choice x y) p a (inr own) = let (rest, is) = some_rest_law y p a own in (rest, inr is)
some_rest_law (star x) p a own = let (left, is) = some_rest_law x p a own in (left ++ star x ∷ [], (left, is, refl))

-- A word of a star that goes through a position: words before, one word through the position, words after.
record Through (x : Expression) (u : List ℕ) (j : ℕ) (v : List ℕ) : Type 0 where
  front : List ℕ
  rest : List ℕ
  later : List ℕ
  word : Word x (front ++ j ∷ rest)
  words_later : Repeats (Word x) later
  is_rest : v ≡ rest ++ later

through : (x : Expression) {w : List ℕ} → Repeats (Word x) w → (u : List ℕ) (j : ℕ) (v : List ℕ) → w ≡ u ++ j ∷ v → Through x u j v
through x done u j v e = absurd (not_empty u j v (sym e))
through x (again {u = a} {v = b} word more) u j v e = elim (cut_at a b u j v e) [
  | in_first rest is later ↦ record {
    front = u;
    rest = rest;
    later = b;
    word = subst (Word x) is word;
    words_later = more;
    is_rest = later;
  }
  | in_second front is later ↦
      let found = through x more front j v later in
      record {
        front = found.front;
        rest = found.rest;
        later = found.later;
        word = found.word;
        words_later = found.words_later;
        is_rest = found.is_rest;
      }
]

-- What comes after the position in a word is a word of the rest.
pub word_to_rest : (x : Expression) → AllDifferent (positions_of x) → (p : ℕ) (rest : List Expression) → IsRest x p rest → (u w : List ℕ) → Word x (u ++ p ∷ w) → IsJoinOfWords rest w
word_to_rest (act q b) different p rest (e, none) u w word =
    let (_, nothing, _) = single u p w q word in
    subst (λ (r : List Expression). IsJoinOfWords r w) (sym none) nothing
word_to_rest skip different p rest is u w word = absurd is
word_to_rest (sequence x y) different p rest (inl (left, is, e)) u w (a, b, in_x, in_y, f) = elim (cut_at a b u p w (sym f)) [
  | in_first r is_a is_w ↦
      let before : IsJoinOfWords left r = word_to_rest x (AllDifferent_left (positions_of x) (positions_of y) different) p left is u r (subst (Word x) is_a in_x) in
      let whole : IsJoinOfWords (left ++ y ∷ []) (r ++ b) = join_append left (y ∷ []) r b before (join_one y b in_y) in
      subst (λ (r : List Expression). IsJoinOfWords r w) (sym e) (subst (IsJoinOfWords (left ++ y ∷ [])) (sym is_w) whole)
  | in_second front is_u is_b ↦ absurd (AllDifferent_apart (positions_of x) (positions_of y) different p (rest_among x p left is) (word_position y front p w (subst (Word y) is_b in_y)))
]
word_to_rest (sequence x y) different p rest (inr is) u w (a, b, in_x, in_y, f) = elim (cut_at a b u p w (sym f)) [
  | in_first r is_a is_w ↦ absurd (AllDifferent_apart (positions_of x) (positions_of y) different p (word_position x u p r (subst (Word x) is_a in_x)) (rest_among y p rest is))
  | in_second front is_u is_b ↦ word_to_rest y (AllDifferent_right (positions_of x) (positions_of y) different) p rest is front w (subst (Word y) is_b in_y)
]
word_to_rest fail different p rest is u w word = absurd is
word_to_rest (choice x y) different p rest (inl is) u w (inl word) = word_to_rest x (AllDifferent_left (positions_of x) (positions_of y) different) p rest is u w word
word_to_rest (choice x y) different p rest (inl is) u w (inr word) = absurd (AllDifferent_apart (positions_of x) (positions_of y) different p (rest_among x p rest is) (word_position y u p w word))
word_to_rest (choice x y) different p rest (inr is) u w (inl word) = absurd (AllDifferent_apart (positions_of x) (positions_of y) different p (word_position x u p w word) (rest_among y p rest is))
word_to_rest (choice x y) different p rest (inr is) u w (inr word) = word_to_rest y (AllDifferent_right (positions_of x) (positions_of y) different) p rest is u w word
word_to_rest (star x) different p rest (left, is, e) u w words =
    let found = through x words u p w refl in
    let before : IsJoinOfWords left found.rest = word_to_rest x different p left is found.front found.rest found.word in
    let whole : IsJoinOfWords (left ++ star x ∷ []) (found.rest ++ found.later) = join_append left (star x ∷ []) found.rest found.later before (join_one (star x) found.later found.words_later) in
    subst (λ (r : List Expression). IsJoinOfWords r w) (sym e) (subst (IsJoinOfWords (left ++ star x ∷ [])) (sym found.is_rest) whole)

-- .. and each word of the rest comes after the position in some word.
pub rest_to_word : (x : Expression) → HasNoEmptySum x → (p : ℕ) (rest : List Expression) → IsRest x p rest → (w : List ℕ) → IsJoinOfWords rest w → (u : List ℕ) × Word x (u ++ p ∷ w)
rest_to_word (act q b) some p rest (e, none) w join =
    let nothing : w ≡ [] = subst (λ (r : List Expression). IsJoinOfWords r w) none join in
    ([], ap (λ (z : ℕ). z ∷ w) e ∙ ap (λ (z : List ℕ). q ∷ z) nothing)
rest_to_word skip some p rest is w join = absurd is
rest_to_word (sequence x y) some p rest (inl (left, is, e)) w join =
    let (a, b, in_left, in_y, f) = join_split left (y ∷ []) w (subst (λ (r : List Expression). IsJoinOfWords r w) e join) in
    let (u, word) = rest_to_word x some.0 p left is a in_left in
    (u, (u ++ p ∷ a, b, word, one_joined y b in_y, ap (λ (z : List ℕ). u ++ p ∷ z) f ∙ sym (append_assoc u (p ∷ a) b)))
rest_to_word (sequence x y) some p rest (inr is) w join =
    let (u, word) = rest_to_word y some.1 p rest is w join in
    let (v, other) = word_law x some.0 in
    (v ++ u, (v, u ++ p ∷ w, other, word, append_assoc v u (p ∷ w)))
rest_to_word fail some p rest is w join = absurd is
rest_to_word (choice x y) some p rest (inl is) w join = elim some.0 [
  | inl failed ↦ absurd (subst (λ (z : Expression). IsRest z p rest) failed is)
  | inr kept ↦ let (u, word) = rest_to_word x kept p rest is w join in (u, inl word)
]
rest_to_word (choice x y) some p rest (inr is) w join = let (u, word) = rest_to_word y some.1 p rest is w join in (u, inr word)
rest_to_word (star x) some p rest (left, is, e) w join =
    let (a, b, in_left, in_star, f) = join_split left (star x ∷ []) w (subst (λ (r : List Expression). IsJoinOfWords r w) e join) in
    let (u, word) = rest_to_word x some p left is a in_left in
    let more : Repeats (Word x) b = one_joined (star x) b in_star in
    (u, subst (Repeats (Word x)) (append_assoc u (p ∷ a) b ∙ ap (λ (z : List ℕ). u ++ p ∷ z) (sym f)) (again word more))

-- The word of a level that goes through the position is one of the rules themselves.
outer_word : (rules : Expression) → IsNumbered rules → (p : ℕ) (rest : List Expression) → IsRest rules p rest → (level : Level) (u w : List ℕ) → WordOf rules level (u ++ p ∷ w) → Word rules (u ++ p ∷ w)
outer_word rules numbered p rest is level u w word =
    let (a, own) = word_own word.expression (u ++ p ∷ w) word.is_word p (Among_right p u (p ∷ w) (inl refl)) in
    let (b, outer) = rest_own rules p rest is in
    let same : word.expression ≡ rules = (one_level_law rules numbered level outermost word.expression rules word.is_level refl p a b own outer).1 in
    subst (λ (x : Expression). Word x (u ++ p ∷ w)) same word.is_word

-- What follows the position is the beginning of a word of the rest.
pub follows_joined : (rules : Expression) → IsNumbered rules → (p : ℕ) (rest : List Expression) → IsRest rules p rest → (m : List ℕ) → Follows rules (after p) m → (z : List ℕ) × IsJoinOfWords rest (m ++ z)
follows_joined rules numbered p rest is m (level, u, z, word) =
    (z, word_to_rest rules (numbered_once rules numbered) p rest is u (m ++ z) (outer_word rules numbered p rest is level u (m ++ z) word))

pub joined_follows : (rules : Expression) → HasNoEmptySum rules → (p : ℕ) (rest : List Expression) → IsRest rules p rest → (m z : List ℕ) → IsJoinOfWords rest (m ++ z) → Follows rules (after p) m
joined_follows rules some p rest is m z join =
    let (u, word) = rest_to_word rules some p rest is (m ++ z) join in
    (outermost, u, z, record { expression = rules; is_level = refl; is_word = word })

pub rest_law : RestLaw
rest_law rules numbered some p rest is w = (to, from)
  where
    to : Ends rules (after p) w → Word (sequence_of rest) w
    to (level, u, word) = (sequence_law rest w).1 (word_to_rest rules (numbered_once rules numbered) p rest is u w (outer_word rules numbered p rest is level u w word))

    from : Word (sequence_of rest) w → Ends rules (after p) w
    from word =
        let (u, whole) = rest_to_word rules some p rest is w ((sequence_law rest w).0 word) in
        (outermost, u, record { expression = rules; is_level = refl; is_word = whole })
