-- If no sum is empty, each own action of an expression is in some word of it.
use Rattle.rbg_base.proofs.Common.{◌≡◌, ◌≢◌, ℕ, List, [], ◌∷◌, ◌++◌, refl, sym, ap, subst, inl, inr, append_assoc, All-nil}
use Rattle.std.proofs.lemmas.List.{append-nil}
use Rattle.rbg_rules.specs.Expression.{AbstractAction, positive, negative, Expression, act, skip, sequence, fail, choice, star}
use Rattle.rbg_rules.specs.Positions.{IsSwitchAt, HasAction, HasInside, HasOwnAction, Level, outermost, inside, IsLevel}
use Rattle.rbg_rules.specs.Words.{Word, Repeats, done, again, Start, beginning, after}
use Rattle.rbg_rules.specs.Games.{HasNoEmptySum, HasNoEmptySumInside}
use Rattle.rbg_rules.specs.State.{AbstractGame, AbstractState}
use Rattle.rbg_rules.specs.Moves.{stay}
use Rattle.rbg_rules.specs.Questions.{Question, try_move, find_move, list_moves, reach, pattern, GoesTo, at}
use Rattle.rbg_rules.specs.Laws.{TrimLaw, EmptyLaw, EmptyOpeningLaw}
use Rattle.rbg_rules.proofs.LevelLemmas.{some_level_law}
use Rattle.rbg_rules.proofs.StateLemmas.{word_law}

abbrev StandsInWord : Expression → ℕ → Type 0
StandsInWord x i = (u : List ℕ) × (v : List ℕ) × Word x (u ++ i ∷ v)

pub trim_law : TrimLaw
trim_law (act q b) none i a (here, _) = ([], [], ap (λ (p : ℕ). p ∷ []) here)
trim_law skip none i a own = absurd own
trim_law (sequence x y) none i a (inl own) =
    let (u, v, word) = trim_law x none.0 i a own in
    let (w, other) = word_law y none.1 in
    (u, v ++ w, (u ++ i ∷ v, w, word, other, sym (append_assoc u (i ∷ v) w)))
trim_law (sequence x y) none i a (inr own) =
    let (u, v, word) = trim_law y none.1 i a own in
    let (w, other) = word_law x none.0 in
    (w ++ u, v, (w, u ++ i ∷ v, other, word, append_assoc w u (i ∷ v)))
trim_law fail none i a own = absurd own
trim_law (choice x y) none i a (inl own) = elim none.0 [
  | inl failed ↦ absurd (subst (λ (z : Expression). HasOwnAction z i a) failed own)
  | inr kept ↦ let (u, v, word) = trim_law x kept i a own in (u, v, inl word)
]
trim_law (choice x y) none i a (inr own) = let (u, v, word) = trim_law y none.1 i a own in (u, v, inr word)
trim_law (star x) none i a own =
    let (u, v, word) = trim_law x none i a own in
    (u, v, subst (Repeats (Word x)) (append-nil (u ++ i ∷ v)) (again word done))

-- No sum inside a pattern is empty.
mutual
  none_in_action : (x : Expression) → HasNoEmptySum x → (p : ℕ) (a : AbstractAction) → HasAction x p a → HasNoEmptySumInside a
  none_in_action (act q b) none p a (inl (_, e)) = subst HasNoEmptySumInside (sym e) none
  none_in_action (act q b) none p a (inr h) = none_in_inside b none p a h
  none_in_action skip none p a h = absurd h
  none_in_action (sequence x y) none p a (inl h) = none_in_action x none.0 p a h
  none_in_action (sequence x y) none p a (inr h) = none_in_action y none.1 p a h
  none_in_action fail none p a h = absurd h
  none_in_action (choice x y) none p a (inl h) = elim none.0 [
    | inl failed ↦ absurd (subst (λ (z : Expression). HasAction z p a) failed h)
    | inr kept ↦ none_in_action x kept p a h
  ]
  none_in_action (choice x y) none p a (inr h) = none_in_action y none.1 p a h
  none_in_action (star x) none p a h = none_in_action x none p a h

  none_in_inside : (b : AbstractAction) → HasNoEmptySumInside b → (p : ℕ) (a : AbstractAction) → HasInside b p a → HasNoEmptySumInside a
  none_in_inside (positive x) none p a h = none_in_action x none p a h
  none_in_inside (negative x) none p a h = none_in_action x none p a h
  none_in_inside _ none p a h = absurd h

none_in_level : (rules : Expression) → HasNoEmptySum rules → (level : Level) (x : Expression) → IsLevel rules level x → HasNoEmptySum x
none_in_level rules none outermost x is = subst HasNoEmptySum (sym is) none
none_in_level rules none (inside p) x (inl h) = none_in_action rules none p (positive x) h
none_in_level rules none (inside p) x (inr h) = none_in_action rules none p (negative x) h

pub empty_law : EmptyLaw
empty_law rules none (beginning level) (x, is) =
    let (w, word) = word_law x (none_in_level rules none level x is) in
    (w, record { expression = x; is_level = is; is_word = word })
empty_law rules none (after i) (a, stands) =
    let (level, x, is, own) = some_level_law rules i a stands in
    let (u, v, word) = trim_law x (none_in_level rules none level x is) i a own in
    (level, u, v, record { expression = x; is_level = is; is_word = word })

-- No list is before the empty one, and the empty one is before every other.
no_prefix : (qs more : List (ℕ × ℕ)) → more ≢ [] → ¬ ([] ≡ qs ++ more)
no_prefix [] more some e = some (sym e)
no_prefix (q ∷ qs) more some e = cc

not_nothing : (q : ℕ × ℕ) (qs : List (ℕ × ℕ)) → (q ∷ qs) ≢ []
not_nothing q qs e = cc

goes_nowhere : (game : AbstractGame) (s : AbstractState) (f : Start) (question : Question) → question ≢ try_move [] → GoesTo game question s f []
goes_nowhere game s f (try_move []) other = absurd (other refl)
goes_nowhere game s f (try_move (q ∷ qs)) other = (q ∷ qs, not_nothing q qs, refl)
goes_nowhere game s f find_move other = λ qs (more, some, e) answer. no_prefix qs more some e
goes_nowhere game s f list_moves other = tt
goes_nowhere game s f reach other = refl
goes_nowhere game s f pattern other = λ qs (more, some, e) answer. no_prefix qs more some e

pub empty_opening_law : EmptyOpeningLaw
empty_opening_law game none f start question other s =
    at {m = []} {t = s} {ps = []}
    (record { no_switch = All-nil (λ p. ¬ IsSwitchAt game.rules p); follows = empty_law game.rules none f start; runs = stay })
    (goes_nowhere game s f question other)
