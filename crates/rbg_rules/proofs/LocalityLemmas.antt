-- Numbered rules are local: two words that go through one position can change over there.
use Rattle.std.proofs.Common.{◌≡◌, ℕ, List, [], ◌∷◌, ◌++◌, refl, sym, ap, ◌∙◌, subst, inl, inr, append_assoc}
use Rattle.rbg_rules.specs.Expression.{AbstractAction, positive, negative, Expression, act, skip, sequence, fail, choice, star}
use Rattle.rbg_rules.specs.Positions.{HasAction, HasInside, positions_of, positions_inside, IsNumbered, Level, outermost, inside, IsLevel}
use Rattle.rbg_rules.specs.Words.{Word, WordOf, Repeats, done, again, beginning, after, Follows, Ends}
use Rattle.rbg_rules.specs.Laws.{LocalityLaw}
use Rattle.rbg_rules.proofs.PositionLemmas.{Among, Among_right, AllDifferent, AllDifferent_left, AllDifferent_right, AllDifferent_apart, numbered_once}
use Rattle.rbg_rules.proofs.PatternLemmas.{word_own}
use Rattle.rbg_rules.proofs.CutLemmas.{Cut, in_first, in_second, cut_at, not_empty, single, word_position}
use Rattle.rbg_rules.proofs.LevelLemmas.{one_level_law}

-- A word of a star that goes through a position: words before, one word through the position, words after.
record Through (x : Expression) (u : List ℕ) (j : ℕ) (v : List ℕ) : Type 0 where
  before : List ℕ
  front : List ℕ
  rest : List ℕ
  later : List ℕ
  words_before : Repeats (Word x) before
  word : Word x (front ++ j ∷ rest)
  words_later : Repeats (Word x) later
  is_front : u ≡ before ++ front
  is_rest : v ≡ rest ++ later

through : (x : Expression) {w : List ℕ} → Repeats (Word x) w → (u : List ℕ) (j : ℕ) (v : List ℕ) → w ≡ u ++ j ∷ v → Through x u j v
through x done u j v e = absurd (not_empty u j v (sym e))
through x (again {u = a} {v = b} word more) u j v e = elim (cut_at a b u j v e) [
  | in_first rest is later ↦ record {
    before = [];
    front = u;
    rest = rest;
    later = b;
    words_before = done;
    word = subst (Word x) is word;
    words_later = more;
    is_front = refl;
    is_rest = later;
  }
  | in_second front is later ↦
      let found = through x more front j v later in
      record {
        before = a ++ found.before;
        front = found.front;
        rest = found.rest;
        later = found.later;
        words_before = again word found.words_before;
        word = found.word;
        words_later = found.words_later;
        is_front = is ∙ ap (λ (z : List ℕ). a ++ z) found.is_front ∙ sym (append_assoc a found.before found.front);
        is_rest = found.is_rest;
      }
]

repeats_join : {Language : List ℕ → Type 0} {u : List ℕ} → Repeats Language u → {v : List ℕ} → Repeats Language v → Repeats Language (u ++ v)
repeats_join done later = later
repeats_join {Language} (again {u} {v = w} word more) {v} later = subst (Repeats Language) (sym (append_assoc u w v)) (again word (repeats_join more later))

-- Two words of the expression that go through the position change over there.
abbrev ChangesOver : Expression → ℕ → Type 0
ChangesOver x j = (u v : List ℕ) → Word x (u ++ j ∷ v) → (u' v' : List ℕ) → Word x (u' ++ j ∷ v') → Word x (u ++ j ∷ v')

changed_in_sequence : (x y : Expression) (j : ℕ) → (Among j (positions_of x) → ¬ Among j (positions_of y)) → ChangesOver x j → ChangesOver y j → ChangesOver (sequence x y) j
changed_in_sequence x y j apart in_one in_other u v (a, b, in_x, in_y, e) u' v' (a', b', in_x', in_y', e') =
    both (cut_at a b u j v (sym e)) (cut_at a' b' u' j v' (sym e'))
  where
    both : Cut a b u j v → Cut a' b' u' j v' → Word (sequence x y) (u ++ j ∷ v')
    both (in_first rest is later) (in_first rest' is' later') =
        let word = in_one u rest (subst (Word x) is in_x) u' rest' (subst (Word x) is' in_x') in
        (u ++ j ∷ rest', b', word, in_y', ap (λ (z : List ℕ). u ++ j ∷ z) later' ∙ sym (append_assoc u (j ∷ rest') b'))
    both (in_first rest is later) (in_second front' is' later') =
        absurd (apart (word_position x u j rest (subst (Word x) is in_x)) (word_position y front' j v' (subst (Word y) later' in_y')))
    both (in_second front is later) (in_first rest' is' later') =
        absurd (apart (word_position x u' j rest' (subst (Word x) is' in_x')) (word_position y front j v (subst (Word y) later in_y)))
    both (in_second front is later) (in_second front' is' later') =
        let word = in_other front v (subst (Word y) later in_y) front' v' (subst (Word y) later' in_y') in
        (a, front ++ j ∷ v', in_x, word, ap (λ (z : List ℕ). z ++ j ∷ v') is ∙ append_assoc a front (j ∷ v'))

-- If no position occurs twice, two words through one position may exchange what follows it.
pub changed_over : (x : Expression) → AllDifferent (positions_of x) → (u : List ℕ) (j : ℕ) (v : List ℕ) → Word x (u ++ j ∷ v) → (u' v' : List ℕ) → Word x (u' ++ j ∷ v') → Word x (u ++ j ∷ v')
changed_over (act q b) different u j v word u' v' word' =
    let (none, _, here) = single u j v q word in
    let (_, none', _) = single u' j v' q word' in
    cc (none, none', here)
changed_over skip different u j v word u' v' word' = absurd (not_empty u j v word)
changed_over (sequence x y) different u j v word u' v' word' =
    changed_in_sequence x y j (AllDifferent_apart (positions_of x) (positions_of y) different j)
    (λ a b in_x a' b' in_x'. changed_over x (AllDifferent_left (positions_of x) (positions_of y) different) a j b in_x a' b' in_x')
    (λ a b in_y a' b' in_y'. changed_over y (AllDifferent_right (positions_of x) (positions_of y) different) a j b in_y a' b' in_y') u v word u' v' word'
changed_over fail different u j v word u' v' word' = absurd word
changed_over (choice x y) different u j v (inl word) u' v' (inl word') = inl (changed_over x (AllDifferent_left (positions_of x) (positions_of y) different) u j v word u' v' word')
changed_over (choice x y) different u j v (inl word) u' v' (inr word') = absurd (AllDifferent_apart (positions_of x) (positions_of y) different j (word_position x u j v word) (word_position y u' j v' word'))
changed_over (choice x y) different u j v (inr word) u' v' (inl word') = absurd (AllDifferent_apart (positions_of x) (positions_of y) different j (word_position x u' j v' word') (word_position y u j v word))
changed_over (choice x y) different u j v (inr word) u' v' (inr word') = inr (changed_over y (AllDifferent_right (positions_of x) (positions_of y) different) u j v word u' v' word')
changed_over (star x) different u j v words u' v' words' =
    let one = through x words u j v refl in
    let other = through x words' u' j v' refl in
    let word : Word x (one.front ++ j ∷ other.rest) = changed_over x different one.front j one.rest one.word other.front other.rest other.word in
    let whole : Repeats (Word x) (one.before ++ ((one.front ++ j ∷ other.rest) ++ other.later)) = repeats_join one.words_before (again word other.words_later) in
    let inner : (one.front ++ j ∷ other.rest) ++ other.later ≡ one.front ++ j ∷ v' = append_assoc one.front (j ∷ other.rest) other.later ∙ ap (λ (z : List ℕ). one.front ++ j ∷ z) (sym other.is_rest) in
    let outer : one.before ++ (one.front ++ j ∷ v') ≡ u ++ j ∷ v' = sym (append_assoc one.before one.front (j ∷ v')) ∙ ap (λ (z : List ℕ). z ++ j ∷ v') (sym one.is_front) in
    subst (Repeats (Word x)) (ap (λ (z : List ℕ). one.before ++ z) inner ∙ outer) whole

-- No position occurs twice inside a pattern either.
mutual
  different_in_action : (x : Expression) → AllDifferent (positions_of x) → (p : ℕ) (a : AbstractAction) → HasAction x p a → AllDifferent (positions_inside a)
  different_in_action (act q b) (_, different) p a (inl (_, e)) = subst (λ (c : AbstractAction). AllDifferent (positions_inside c)) (sym e) different
  different_in_action (act q b) (_, different) p a (inr h) = different_in_inside b different p a h
  different_in_action skip different p a h = absurd h
  different_in_action (sequence x y) different p a (inl h) = different_in_action x (AllDifferent_left (positions_of x) (positions_of y) different) p a h
  different_in_action (sequence x y) different p a (inr h) = different_in_action y (AllDifferent_right (positions_of x) (positions_of y) different) p a h
  different_in_action fail different p a h = absurd h
  different_in_action (choice x y) different p a (inl h) = different_in_action x (AllDifferent_left (positions_of x) (positions_of y) different) p a h
  different_in_action (choice x y) different p a (inr h) = different_in_action y (AllDifferent_right (positions_of x) (positions_of y) different) p a h
  different_in_action (star x) different p a h = different_in_action x different p a h

  different_in_inside : (b : AbstractAction) → AllDifferent (positions_inside b) → (p : ℕ) (a : AbstractAction) → HasInside b p a → AllDifferent (positions_inside a)
  different_in_inside (positive x) different p a h = different_in_action x different p a h
  different_in_inside (negative x) different p a h = different_in_action x different p a h
  different_in_inside _ different p a h = absurd h

different_in_level : (rules : Expression) → IsNumbered rules → (level : Level) (x : Expression) → IsLevel rules level x → AllDifferent (positions_of x)
different_in_level rules numbered outermost x is = subst (λ (y : Expression). AllDifferent (positions_of y)) (sym is) (numbered_once rules numbered)
different_in_level rules numbered (inside p) x (inl h) = different_in_action rules (numbered_once rules numbered) p (positive x) h
different_in_level rules numbered (inside p) x (inr h) = different_in_action rules (numbered_once rules numbered) p (negative x) h

-- The same of words of levels: a position belongs to one level.
change_over : (rules : Expression) → IsNumbered rules → (level level' : Level) (u : List ℕ) (j : ℕ) (v u' v' : List ℕ) → WordOf rules level (u ++ j ∷ v) → WordOf rules level' (u' ++ j ∷ v') → WordOf rules level (u ++ j ∷ v')
change_over rules numbered level level' u j v u' v' one other =
    let (a, own) = word_own one.expression (u ++ j ∷ v) one.is_word j (Among_right j u (j ∷ v) (inl refl)) in
    let (a', own') = word_own other.expression (u' ++ j ∷ v') other.is_word j (Among_right j u' (j ∷ v') (inl refl)) in
    let same : one.expression ≡ other.expression = (one_level_law rules numbered level level' one.expression other.expression one.is_level other.is_level j a a' own own').1 in
    record {
      expression = one.expression;
      is_level = one.is_level;
      is_word =
          changed_over one.expression (different_in_level rules numbered level one.expression one.is_level) u j v one.is_word u' v'
          (subst (λ (x : Expression). Word x (u' ++ j ∷ v')) (sym same) other.is_word);
    }

-- A word of a level, if its list is another way to write the same.
word_is : {rules : Expression} {level : Level} {w w' : List ℕ} → w ≡ w' → WordOf rules level w → WordOf rules level w'
word_is {rules} {level} e word = subst (WordOf rules level) e word

pub locality_law : LocalityLaw
locality_law rules numbered (beginning level) m j later = ((follows_to, follows_from), (ends_to, ends_from))
  where
    follows_to : Follows rules (beginning level) (m ++ j ∷ later) → Follows rules (beginning level) (m ++ j ∷ []) × Follows rules (after j) later
    follows_to (z, word) = (
      (later ++ z, word_is (append_assoc m (j ∷ later) z ∙ sym (append_assoc m (j ∷ []) (later ++ z))) word),
      (level, m, z, word_is (append_assoc m (j ∷ later) z) word),
    )

    follows_from : Follows rules (beginning level) (m ++ j ∷ []) × Follows rules (after j) later → Follows rules (beginning level) (m ++ j ∷ later)
    follows_from ((z, word), (level', u, z', word')) =
        let one : WordOf rules level (m ++ j ∷ z) = word_is (append_assoc m (j ∷ []) z) word in
        (z', word_is (sym (append_assoc m (j ∷ later) z')) (change_over rules numbered level level' m j z u (later ++ z') one word'))

    ends_to : Ends rules (beginning level) (m ++ j ∷ later) → Follows rules (beginning level) (m ++ j ∷ []) × Ends rules (after j) later
    ends_to word = ((later, word_is (sym (append_assoc m (j ∷ []) later)) word), (level, m, word))

    ends_from : Follows rules (beginning level) (m ++ j ∷ []) × Ends rules (after j) later → Ends rules (beginning level) (m ++ j ∷ later)
    ends_from ((z, word), (level', u, word')) =
        let one : WordOf rules level (m ++ j ∷ z) = word_is (append_assoc m (j ∷ []) z) word in
        change_over rules numbered level level' m j z u later one word'
locality_law rules numbered (after i) m j later = ((follows_to, follows_from), (ends_to, ends_from))
  where
    joined : (u rest : List ℕ) → u ++ i ∷ (m ++ j ∷ rest) ≡ (u ++ i ∷ m) ++ j ∷ rest
    joined u rest = sym (append_assoc u (i ∷ m) (j ∷ rest))

    through_j : (u rest z : List ℕ) → u ++ i ∷ ((m ++ j ∷ rest) ++ z) ≡ (u ++ i ∷ m) ++ j ∷ (rest ++ z)
    through_j u rest z = ap (λ (y : List ℕ). u ++ i ∷ y) (append_assoc m (j ∷ rest) z) ∙ joined u (rest ++ z)

    follows_to : Follows rules (after i) (m ++ j ∷ later) → Follows rules (after i) (m ++ j ∷ []) × Follows rules (after j) later
    follows_to (level, u, z, word) = (
      (level, u, later ++ z, word_is (through_j u later z ∙ sym (through_j u [] (later ++ z))) word),
      (level, u ++ i ∷ m, z, word_is (through_j u later z) word),
    )

    follows_from : Follows rules (after i) (m ++ j ∷ []) × Follows rules (after j) later → Follows rules (after i) (m ++ j ∷ later)
    follows_from ((level, u, z, word), (level', u', z', word')) =
        let one : WordOf rules level ((u ++ i ∷ m) ++ j ∷ z) = word_is (through_j u [] z) word in
        (level, u, z', word_is (sym (through_j u later z')) (change_over rules numbered level level' (u ++ i ∷ m) j z u' (later ++ z') one word'))

    ends_to : Ends rules (after i) (m ++ j ∷ later) → Follows rules (after i) (m ++ j ∷ []) × Ends rules (after j) later
    ends_to (level, u, word) = (
      (level, u, later, word_is (joined u later ∙ sym (through_j u [] later)) word),
      (level, u ++ i ∷ m, word_is (joined u later) word),
    )

    ends_from : Follows rules (after i) (m ++ j ∷ []) × Ends rules (after j) later → Ends rules (after i) (m ++ j ∷ later)
    ends_from ((level, u, z, word), (level', u', word')) =
        let one : WordOf rules level ((u ++ i ∷ m) ++ j ∷ z) = word_is (through_j u [] z) word in
        (level, u, word_is (sym (joined u later)) (change_over rules numbered level level' (u ++ i ∷ m) j z u' later one word'))
