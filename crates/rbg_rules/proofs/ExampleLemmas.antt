-- Steps of the proofs about small games.
use Rattle.rbg_base.proofs.Common.{◌≡◌, ◌≢◌, ℕ, zero, suc, List, [], ◌∷◌, ◌++◌, refl, sym, ap, ◌∙◌, subst, ◌⊎◌, inl, inr, arith, false, ◌==◌, All, Some, slice_get, list_any, bytes_eq, bytes_eq-Decides}
use Rattle.std.proofs.lemmas.Bool.{or_parts, eq-eqb}
use Rattle.rbg_rules.specs.Meaning.{AbstractAction, Expression, act, sequence_of, HasOwnAction, IsNumbered, IsSwitchAt, HasNoSwitch, outermost, Word, Follows, after, AbstractGame, AbstractState, Applies, RunPairs, stay, modify, pass, AbstractPlace, Legal, IsLegal, point_of, IsJoinOfWords}
use Rattle.rbg_rules.proofs.PositionLemmas.{Among, Among_right}
use Rattle.rbg_rules.proofs.PatternLemmas.{word_own}
use Rattle.rbg_rules.proofs.LevelLemmas.{one_level_law}
use Rattle.rbg_rules.proofs.PlaceLemmas.{RunPairs-append, one_switch}
use Rattle.rbg_rules.proofs.WordLemmas.{sequence_law}
use Rattle.rbg_rules.proofs.ActionsAt.{has_such, of_word, ModifiesAt, not_quiet, true_not_false}

-- What holds of all elements holds of one that is among them.
pub all_among : (P : ℕ → Type 0) (xs : List ℕ) → All P xs → (x : ℕ) → Among x xs → P x
all_among P [] all x h = absurd h
all_among P (y ∷ xs) all x (inl e) = subst P (sym e) (all 0 0 (omega arith))
all_among P (y ∷ xs) all x (inr h) = all_among P xs (λ k d below. all (suc k) d (omega arith)) x h

-- The pairs of a move end with the switch's.
pub record LastPair (ps : List (ℕ × ℕ)) (last : ℕ) : Type 0 where
  pub before : List (ℕ × ℕ)
  pub vertex : ℕ
  pub joined : ps ≡ before ++ (vertex, last) ∷ []

pub last_pair : (game : AbstractGame) → IsNumbered game.rules → {from to : AbstractPlace} {ps : List (ℕ × ℕ)} (legal : Legal game from ps to) → LastPair ps legal.last
last_pair game numbered legal =
    let cut = RunPairs-append legal.before (legal.last ∷ []) legal.runs in
    let end = one_switch numbered legal.switches cut.second in
    record { before = cut.before; vertex = cut.middle.vertex; joined = cut.joined ∙ ap (λ (qs : List (ℕ × ℕ)). cut.before ++ qs) end.pairs }

-- The position of a pair is one of the run's.
unfoldable pub PairAmong : ℕ → ℕ → List (ℕ × ℕ) → Type 0
PairAmong v p [] = ⊥
PairAmong v p (q ∷ qs) = (q ≡ (v, p)) ⊎ PairAmong v p qs

pub pair_first : (v p : ℕ) (qs : List (ℕ × ℕ)) → PairAmong v p ((v, p) ∷ qs)
unfolding PairAmong
pair_first v p qs = inl refl

pub pair_later : (v p : ℕ) (q : ℕ × ℕ) (qs : List (ℕ × ℕ)) → PairAmong v p qs → PairAmong v p (q ∷ qs)
unfolding PairAmong
pair_later v p q qs h = inr h

pub pair_position : {game : AbstractGame} {w : List ℕ} {s t : AbstractState} {ps : List (ℕ × ℕ)} → RunPairs game w s t ps → (v p : ℕ) → PairAmong v p ps → Among p w
unfolding PairAmong
pair_position stay v p h = absurd h
pair_position (modify applied modifies run) v p (inl e) = inl (sym (ap (λ (q : ℕ × ℕ). q.1) e))
pair_position (modify applied modifies run) v p (inr h) = inr (pair_position run v p h)
pair_position (pass applied quiet run) v p h = inr (pair_position run v p h)

-- What follows an own action of the rules continues in a word of the rules.
pub record GoesOn (rules : Expression) (i : ℕ) (m : List ℕ) : Type 0 where
  pub front : List ℕ
  pub back : List ℕ
  pub word : Word rules (front ++ i ∷ (m ++ back))

pub goes_on : (rules : Expression) → IsNumbered rules → (i : ℕ) (a : AbstractAction) → HasOwnAction rules i a → (m : List ℕ) → Follows rules (after i) m → GoesOn rules i m
goes_on rules numbered i a own m (level, u, z, of_level) =
    let here : Among i (u ++ i ∷ (m ++ z)) = Among_right i u (i ∷ (m ++ z)) (inl refl) in
    let other = word_own of_level.expression (u ++ i ∷ (m ++ z)) of_level.is_word i here in
    let same = one_level_law rules numbered level outermost of_level.expression rules of_level.is_level refl i other.0 a other.1 own in
    record { front = u; back = z; word = subst (λ (x : Expression). Word x (u ++ i ∷ (m ++ z))) same.1 of_level.is_word }

-- A word of a sequence is one of its parts after the other.
pub sequence_word : (parts : List Expression) (w : List ℕ) → IsJoinOfWords parts w → Word (sequence_of parts) w
sequence_word parts w join = (sequence_law parts w).1 join

pub join_word : (parts : List Expression) (w : List ℕ) → Word (sequence_of parts) w → IsJoinOfWords parts w
join_word parts w word = (sequence_law parts w).0 word

-- An action that begins a word and is nowhere else in it is at its front.
pub at_front : (i : ℕ) (u r w : List ℕ) → u ++ i ∷ r ≡ i ∷ w → ¬ Among i w → r ≡ w
at_front i [] r w e once = cc
at_front i (x ∷ u) r w e once =
    let tails : u ++ i ∷ r ≡ w = cc in
    absurd (once (subst (Among i) tails (Among_right i u (i ∷ r) (inl refl))))

-- What follows the first action of a sequence, whose position is no other's, begins a word of the others.
pub record Remains (parts : List Expression) (m : List ℕ) : Type 0 where
  pub back : List ℕ
  pub others : IsJoinOfWords parts (m ++ back)

pub remains : (i : ℕ) (a : AbstractAction) (parts : List Expression) → IsNumbered (sequence_of (act i a ∷ parts)) → HasOwnAction (sequence_of (act i a ∷ parts)) i a → has_such (λ q b. i == q) (sequence_of parts) ≡ false → (m : List ℕ) → Follows (sequence_of (act i a ∷ parts)) (after i) m → Remains parts m
remains i a parts numbered own once m follows =
    let on_from = goes_on (sequence_of (act i a ∷ parts)) numbered i a own m follows in
    let (u, v, first, others, e) = join_word (act i a ∷ parts) (on_from.front ++ i ∷ (m ++ on_from.back)) on_from.word in
    let not_again : ¬ Among i v = λ h. true_not_false (sym (eq-eqb i i refl) ∙ of_word (λ q. i == q) (sequence_of parts) once v (sequence_word parts v others) i h) in
    let rest : m ++ on_from.back ≡ v = at_front i on_from.front (m ++ on_from.back) v (e ∙ ap (λ (z : List ℕ). z ++ v) first) not_again in
    record { back = on_from.back; others = subst (IsJoinOfWords parts) (sym rest) others }

-- A sequence of single actions has one word.
abbrev pub acts : List (ℕ × AbstractAction) → List Expression
acts [] = []
acts (q ∷ qs) = act q.0 q.1 ∷ acts qs

abbrev pub places : List (ℕ × AbstractAction) → List ℕ
places [] = []
places (q ∷ qs) = q.0 ∷ places qs

acts_join : (qs : List (ℕ × AbstractAction)) → IsJoinOfWords (acts qs) (places qs)
acts_join [] = refl
acts_join (q ∷ qs) = (q.0 ∷ [], places qs, refl, acts_join qs, refl)

pub acts_joined : (qs : List (ℕ × AbstractAction)) (w : List ℕ) → IsJoinOfWords (acts qs) w → w ≡ places qs
acts_joined [] w e = e
acts_joined (q ∷ qs) w (u, v, first, others, e) = e ∙ ap (λ (z : List ℕ). z ++ v) first ∙ ap (λ (z : List ℕ). q.0 ∷ z) (acts_joined qs v others)

pub acts_word : (qs : List (ℕ × AbstractAction)) → Word (sequence_of (acts qs)) (places qs)
acts_word qs = sequence_word (acts qs) (places qs) (acts_join qs)

pub only_word : (qs : List (ℕ × AbstractAction)) (w : List ℕ) → Word (sequence_of (acts qs)) w → w ≡ places qs
only_word qs w word = acts_joined qs w (join_word (acts qs) w word)

-- A run that isn't empty begins with what its first position does.
pub first_applies : {game : AbstractGame} {p : ℕ} {w : List ℕ} {s t : AbstractState} {ps : List (ℕ × ℕ)} → RunPairs game (p ∷ w) s t ps → (middle : AbstractState) × Applies game p s middle
first_applies (modify {middle} applied modifies run) = (middle, applied)
first_applies (pass {middle} applied quiet run) = (middle, applied)

-- An element of a list is in its first part, or the whole of that part is before it.
pub split : (m b : List ℕ) (q x : ℕ) (back : List ℕ) → m ++ q ∷ back ≡ b ++ x ∷ [] → Among q b ⊎ ((rest : List ℕ) × (m ≡ b ++ rest))
split m [] q x back e = inr (m, refl)
split [] (y ∷ b) q x back e = inl (inl cc)
split (z ∷ m) (y ∷ b) q x back e =
    let head : z ≡ y = cc in
    let tail : m ++ q ∷ back ≡ b ++ x ∷ [] = cc in
    elim (split m b q x back tail) [
      | inl h ↦ inl (inr h)
      | inr (rest, is) ↦ inr (rest, ap (λ (l : List ℕ). z ∷ l) is ∙ ap (λ (k : ℕ). k ∷ (b ++ rest)) head)
    ]

-- A run of no positions leaves no pairs, and a run of one modifier leaves one pair.
pub no_pairs : (game : AbstractGame) (s t : AbstractState) (ps : List (ℕ × ℕ)) → RunPairs game [] s t ps → ps ≡ []
no_pairs game s t ps stay = refl

pub one_pair : (game : AbstractGame) (p : ℕ) → ModifiesAt game.rules p → (s t : AbstractState) (ps : List (ℕ × ℕ)) → RunPairs game (p ∷ []) s t ps → ps ≡ (s.vertex, p) ∷ []
one_pair game p modifier s t ps (modify applied is stay) = refl
one_pair game p modifier s t ps (pass applied quiet stay) = absurd (not_quiet modifier applied quiet)

-- A name that differs from each of some names is none of them.
pub differs : (name : List ℕ) (names : List (List ℕ)) → list_any (λ other. bytes_eq other name) names ≡ false → (k : ℕ) → ¬ (slice_get names k ≡ Some name)
differs name [] none k e = cc
differs name (other ∷ names) none zero e =
    let same : other ≡ name = cc in
    let first = (or_parts (bytes_eq other name) (list_any (λ n. bytes_eq n name) names) none).0 in
    true_not_false (sym ((bytes_eq-Decides other name).1 same) ∙ first)
differs name (other ∷ names) none (suc k) e = differs name names (or_parts (bytes_eq other name) (list_any (λ n. bytes_eq n name) names) none).1 k e

-- A move: the positions before its last one, that one, the state to which it leads, and why it is legal.
pub legal_by : {game : AbstractGame} {from : AbstractPlace} {ps : List (ℕ × ℕ)} (before : List ℕ) (last : ℕ) (end : AbstractState) → Follows game.rules (point_of from.last) (before ++ last ∷ []) → RunPairs game (before ++ last ∷ []) from.state end ps → IsSwitchAt game.rules last → HasNoSwitch game.rules before → IsLegal game from ps
legal_by before last end follows runs switches none_before =
    (record { state = end; last = Some last }, record { before = before; last = last; follows = follows; runs = runs; switches = switches; none_before = none_before; stands = refl })

-- What is in front of something, of one pair or of none, is nothing.
pub only_nothing : (qs more : List (ℕ × ℕ)) → more ≢ [] → ¬ ([] ≡ qs ++ more)
only_nothing [] more some e = some (sym e)
only_nothing (q ∷ qs) more some e = cc

pub all_of_one : (pair : ℕ × ℕ) (qs more : List (ℕ × ℕ)) → more ≢ [] → pair ∷ [] ≡ qs ++ more → qs ≡ []
all_of_one pair [] more some e = refl
all_of_one pair (q ∷ qs) more some e = let tails : [] ≡ qs ++ more = cc in absurd (only_nothing qs more some tails)
