-- How a walk goes on, and what it is in the end.
use Rattle.rbg_base.proofs.Common.{◌≡◌, ◌≢◌, ℕ, ◌+◌, ◌*◌, ◌^◌, ◌%◌, ◌<◌, ◌≤◌, ◌⊎◌, inl, inr, List, [], ◌∷◌, ◌++◌, length, get_or, take, Bool, true, false, refl, sym, ap, subst, ◌∙◌, slice_set, arith, ◌↔◌, bit_or, All, Contains, IsTrue, bit_at, bit_at-trailing_zeros, trailing_zeros, w64, mul-le, ℕ_discrete, not, get_or_from_slice_get, take_more, length_push, Contains-get_or, Contains-push, Contains-push_cases, Contains-append_left}
use Rattle.std.proofs.Common.{eqb}
use Rattle.std.proofs.lemmas.Bool.{eqb-true}
use Rattle.std.proofs.lemmas.List.{get_or-set_same, get_or-set_other, length-set, take_more_set}
use Rattle.std.proofs.lemmas.List.Quantifiers.{all_pairs_push}
use Rattle.rbg_rules.specs.Meaning.{on, is_modifier, HasAction, IsGame, IsNumbered, IsStart, positions_of, AbstractGame, AbstractState, IsStateOf, Start, after}
use Rattle.rbg_rules.proofs.PositionLemmas.{one_action_at}
use Rattle.rbg_shifts.proofs.Bits.{first_bit, second_bit}
use Rattle.rbg_shifts.proofs.Common.{IsLeap, EndsAcross}
use Rattle.rbg_shifts.specs.declared.target.Target.{Target}
use Rattle.rbg_flat.specs.declared.walk.Walk.{Walk}
use Rattle.rbg_flat.specs.internal.Walking.{IsPassage, IsPassable, IsWaiting, IsNoted, IsWalk, GoesOn, TakesLast, Walks}
use Rattle.rbg_flat.proofs.Common.{leaping, at_vertex, most_candidates, EndsMet, Holds, IsCandidate, IsMet, first, then, IsComparisonAt, Facts, Kind, IsKind, Comparison, On, OnEither, IsDeadEnd, IsInWord, IsPositionIn, IsToTry, LearnsEnd}
use Rattle.rbg_flat.proofs.ChainLemmas.{chain_law, met_of, part_of}
use Rattle.rbg_flat.proofs.Endings.{no_bit}
use Rattle.rbg_flat.proofs.Numberings.{HasNumber, few_pairs}
use Rattle.rbg_flat.proofs.Steps.{all_marked, ends_are_met}
use Rattle.rbg_flat.proofs.ModifierLemmas.{comparison_plain, comparison_quiet}
use Rattle.rbg_flat.proofs.ToTry.{comparison_to_try, holds_to_try, no_on, tried_passes}

pub no_index : (k : ℕ) → k < 0 → ⊥
no_index k h = omega (arith, h)

-- An on or a comparison is a passage.
pub passage_on : (game : AbstractGame) → IsNumbered game.rules → (s : AbstractState) (v p : ℕ) (wanted : List ℕ) → HasAction game.rules p (on wanted) → IsPassage game s v p
passage_on game numbered s v p wanted stands = record {
  quiet = λ m. true_not_false (sym m.modifies ∙ ap is_modifier (one_action_at game.rules numbered p m.action (on wanted) m.stands stands));
  plain = λ pattern. no_on game.rules numbered p pattern wanted stands;
  passes = tried_passes game numbered s p wanted stands v;
}
  where
    true_not_false : true ≡ false → ⊥
    true_not_false e = cc

pub passage_comparison : (game : AbstractGame) → IsNumbered game.rules → (s : AbstractState) (v p : ℕ) → IsComparisonAt game.rules p → IsPassage game s v p
passage_comparison game numbered s v p is = record {
  quiet = comparison_quiet game.rules numbered p is;
  plain = comparison_plain game.rules numbered p is;
  passes = (comparison_to_try game numbered s p is v).1;
}

-- A position of such a kind is a passage.
pub passage_of : (game : AbstractGame) → IsNumbered game.rules → (s : AbstractState) (v p : ℕ) (told : Facts) → IsKind game.rules p told.kind → (told.kind ≡ On) ⊎ ((told.kind ≡ OnEither) ⊎ (told.kind ≡ Comparison)) → IsPassage game s v p
passage_of game numbered s v p told kind is = by_kind is
  where
    by_on : ((wanted : List ℕ) × HasAction game.rules p (on wanted)) → IsPassage game s v p
    by_on (wanted, stands) = passage_on game numbered s v p wanted stands

    by_kind : (told.kind ≡ On) ⊎ ((told.kind ≡ OnEither) ⊎ (told.kind ≡ Comparison)) → IsPassage game s v p
    by_kind (inl one) = by_on (subst (λ (k : Kind). IsKind game.rules p k) one kind)
    by_kind (inr (inl two)) = by_on (subst (λ (k : Kind). IsKind game.rules p k) two kind)
    by_kind (inr (inr compares)) = passage_comparison game numbered s v p (subst (λ (k : Kind). IsKind game.rules p k) compares kind)

-- A number that is not 0.
pub not_zero : (n : ℕ) → IsTrue (not (eqb n 0)) ↔ (n ≢ 0)
not_zero n = (λ is none. false_not_true (subst (λ (k : ℕ). not (eqb k 0) ≡ true) none is), λ some. by_case some (eqb n 0) refl)
  where
    false_not_true : false ≡ true → ⊥
    false_not_true e = cc

    by_case : n ≢ 0 → (b : Bool) → eqb n 0 ≡ b → not (eqb n 0) ≡ true
    by_case some true is = absurd (some (eqb-true n 0 is))
    by_case some false is = ap not is

-- A target of one vertex is passable where a passage is.
module _
    (game : AbstractGame) (s : AbstractState) (t : Target) (bit rest tries both : ℕ)
    (small : bit < 64) (set : bit_at t.word bit ≡ 1)
    (others : (b : ℕ) → b ≢ bit → bit_at rest b ≡ bit_at t.word b) (one : rest ≡ 0)
    (told : (b : ℕ) → b < 64 → (bit_at tries b ≡ 1) ↔ IsToTry game s (t.column * 64 + b) t.position)
    (first_of : (b : ℕ) → bit_at both b ≡ 1 → bit_at t.word b ≡ 1)
    (second_of : (b : ℕ) → bit_at both b ≡ 1 → bit_at tries b ≡ 1)
    (both_of : (b : ℕ) → bit_at t.word b ≡ 1 → bit_at tries b ≡ 1 → bit_at both b ≡ 1)
    (fits : both < 2 ^ 64) (passage : (v : ℕ) → IsPassage game s v t.position)
  where
    abbrev vertex : ℕ
    vertex = t.column * 64 + bit

    bit_of : (b : ℕ) → bit_at t.word b ≡ 1 → b ≡ bit
    bit_of b has = elim (ℕ_discrete b bit) [
      | yes same ↦ same
      | no other ↦ absurd (no_bit rest b one (others b other ∙ has))
    ]

    bit_there : bit ≡ vertex % 64
    bit_there = omega (arith, small)

    tried : both ≢ 0 → IsToTry game s vertex t.position
    tried some =
        let above : 0 < both = omega (arith, some) in
        let lowest = bit_at-trailing_zeros w64 both above fits in
        let there : bit_at both (trailing_zeros w64 both) ≡ 1 = lowest.1 in
        let same : trailing_zeros w64 both ≡ bit = bit_of (trailing_zeros w64 both) (first_of (trailing_zeros w64 both) there) in
        (told bit small).0 (subst (λ (b : ℕ). bit_at tries b ≡ 1) same (second_of (trailing_zeros w64 both) there))

    some_bit : IsToTry game s vertex t.position → both ≢ 0
    some_bit is none = no_bit both bit none (both_of bit set ((told bit small).1 is))

    pub passable : (opens : Bool) → IsTrue opens ↔ (both ≢ 0) → IsPassable game s t opens
    passable opens is = record {
      vertex = vertex;
      there = record { position = refl; column = omega (arith, small); set = subst (λ (k : ℕ). bit_at t.word k ≡ 1) bit_there set };
      only = λ v p there.
          let column = there.column in
          let same = bit_of (v % 64) there.set in
          omega (arith, column, same);
      passage = passage vertex;
      told = (λ opened. tried (is.0 opened), λ tries. is.1 (some_bit tries));
    }

-- Where none waits, no pair does.
pub none_waits : (walk : Walk) → walk.waiting ≡ 0 → (v p : ℕ) → ¬ IsWaiting walk v p
none_waits walk idle v p waits = no_pair (subst (λ (k : ℕ). Contains (take k walk.todo) (v, p)) idle waits)
  where
    no_pair : Contains (take 0 walk.todo) (v, p) → ⊥
    no_pair there = no_index there.0 there.1

-- A walk on which nothing was met.
abbrev pub no_walk : (game : AbstractGame) (s : AbstractState) (walk : Walk) → length walk.marks ≡ 16 → length walk.todo ≡ 8 → walk.many ≡ 0 → walk.waiting ≡ 0 → IsWalk game s walk
no_walk game s walk marks todo none idle = record {
  marks = marks;
  todo = todo;
  pairs = [];
  different = λ i j d less within. absurd (omega (arith, less, within));
  count = sym none;
  vertex = λ v p there. absurd (no_index there.0 there.1);
  position = λ v p there. absurd (no_index there.0 there.1);
  passage = λ v p there. absurd (no_index there.0 there.1);
  noted = λ v p there. absurd (no_index there.0 there.1);
  room = omega (arith, idle);
  waits = λ v p waits. absurd (none_waits walk idle v p waits);
}

-- No more pairs are met than there are positions and vertices.
module _ (game : AbstractGame) (s : AbstractState) (walk : Walk) (is : IsWalk game s walk) where
  abbrev vertices : ℕ
  vertices = length game.board.first

  within : All (HasNumber vertices (most_candidates game + vertices)) is.pairs
  within i d below =
      let q : ℕ × ℕ = get_or is.pairs i d in
      let listed : Contains is.pairs (q.0, q.1) = Contains-get_or is.pairs i d below in
      let vertex = is.vertex q.0 q.1 listed in
      let at = is.position q.0 q.1 listed in
      let there = at.there in
      let most : q.1 * vertices ≤ length (positions_of game.rules) * vertices = mul-le q.1 vertices (length (positions_of game.rules)) vertices there (omega arith) in
      record { vertex = vertex; from_one = at.from_one; below = omega (arith, vertex, most) }

  pub few_walked : walk.many ≤ most_candidates game
  few_walked =
      let few = few_pairs vertices (most_candidates game + vertices) is.pairs is.different within in
      let count = is.count in
      omega (arith, few, count)

-- So one more is a number of 64 bits.
pub sum_fits : (game : AbstractGame) → IsGame game → (s : AbstractState) (walk : Walk) → IsWalk game s walk → walk.many + 1 < 2 ^ 64
sum_fits game lawful s walk is =
    let few = few_walked game s walk is in
    let most : most_candidates game ≤ 20000 * 4096 = mul-le (length (positions_of game.rules)) (length game.board.first) 20000 4096 lawful.limits.positions lawful.limits.vertices in
    omega (arith, few, most)

-- Marks stay where bits are added to a word of them, and the bits are marks then.
module _ (words : List ℕ) (place word : ℕ) (within : place < length words) where
  abbrev more : ℕ
  more = bit_or (get_or words place 0) word

  pub still_noted : (k b : ℕ) → bit_at (get_or words k 0) b ≡ 1 → bit_at (get_or (slice_set words place more) k 0) b ≡ 1
  still_noted k b is = elim (ℕ_discrete k place) [
    | yes same ↦
        let was : bit_at (get_or words place 0) b ≡ 1 = subst (λ (j : ℕ). bit_at (get_or words j 0) b ≡ 1) same is in
        subst (λ (j : ℕ). bit_at (get_or (slice_set words place more) j 0) b ≡ 1) (sym same)
        (ap (λ (n : ℕ). bit_at n b) (get_or-set_same words place more 0 within) ∙ first_bit (get_or words place 0) word b was)
    | no other ↦ ap (λ (n : ℕ). bit_at n b) (get_or-set_other words place k more 0 other) ∙ is
  ]

  pub now_noted : (b : ℕ) → bit_at word b ≡ 1 → bit_at (get_or (slice_set words place more) place 0) b ≡ 1
  now_noted b is = ap (λ (n : ℕ). bit_at n b) (get_or-set_same words place more 0 within) ∙ second_bit (get_or words place 0) word b is

-- One more target is met, of which no vertex was met.
module _
    (game : AbstractGame) (s : AbstractState) (old : Walk) (was : IsWalk game s old) (t : Target) (opens : Bool)
    (is : IsPassable game s t opens) (board : is.vertex < length game.board.first) (position : IsPositionIn game t.position)
    (both : ℕ)
    (shared : (b : ℕ) → bit_at (get_or old.marks (t.position % 16) 0) b ≡ 1 → bit_at t.word b ≡ 1 → bit_at both b ≡ 1)
    (none : both ≡ 0)
  where
    abbrev place : ℕ
    place = t.position % 16

    in_marks : place < length old.marks
    in_marks = let size = was.marks in omega (arith, size)

    abbrev pair : ℕ × ℕ
    pair = (is.vertex, t.position)

    abbrev pairs : List (ℕ × ℕ)
    pairs = was.pairs ++ pair ∷ []

    abbrev marks : List ℕ
    marks = slice_set old.marks place (bit_or (get_or old.marks place 0) t.word)

    one_pair : (v p : ℕ) → IsInWord t.position t.column t.word v p → ◌≡◌ {A = ℕ × ℕ} pair (v, p)
    one_pair v p there = λ i. (sym (is.only v p there) i, sym there.position i)

    of_pair : (v p : ℕ) → ◌≡◌ {A = ℕ × ℕ} pair (v, p) → IsInWord t.position t.column t.word v p
    of_pair v p same = subst (λ (q : ℕ × ℕ). IsInWord t.position t.column t.word q.0 q.1) same is.there

    not_met : (q : ℕ × ℕ) → Contains was.pairs q → q ≢ pair
    not_met q there same = no_bit both (is.vertex % 64) none (shared (is.vertex % 64) noted is.there.set)
      where
        noted : IsNoted old is.vertex t.position
        noted = subst (λ (x : ℕ × ℕ). IsNoted old x.0 x.1) same (was.noted q.0 q.1 there)

    each : (P : (v p : ℕ) → Type 0) → ((v p : ℕ) → Contains was.pairs (v, p) → P v p) → P is.vertex t.position → (v p : ℕ) → Contains pairs (v, p) → P v p
    each P so_far here v p there = by_case (Contains-push_cases was.pairs pair (v, p) there)
      where
        by_case : Contains was.pairs (v, p) ⊎ (◌≡◌ {A = ℕ × ℕ} pair (v, p)) → P v p
        by_case (inl before) = so_far v p before
        by_case (inr same) = subst (λ (q : ℕ × ℕ). P q.0 q.1) same here

    still_listed : (v p : ℕ) → Contains was.pairs (v, p) → Contains pairs (v, p)
    still_listed v p there = Contains-append_left was.pairs (pair ∷ []) (v, p) there

    -- The walk is this one then.
    module _
        (new : Walk) (marks_are : new.marks ≡ marks) (todo : length new.todo ≡ 8) (many : new.many ≡ old.many + 1) (room : new.waiting ≤ 8)
        (still : (v p : ℕ) → IsWaiting old v p → IsWaiting new v p)
        (here : IsTrue opens → IsWaiting new is.vertex t.position)
        (others : (v p : ℕ) → IsWaiting new v p → IsWaiting old v p ⊎ (IsTrue opens × (◌≡◌ {A = ℕ × ℕ} pair (v, p))))
      where
        noted_then : (v p : ℕ) → Contains pairs (v, p) → IsNoted new v p
        noted_then = each (IsNoted new)
            (λ v p there. subst (λ (words : List ℕ). bit_at (get_or words (p % 16) 0) (v % 64) ≡ 1) (sym marks_are) (still_noted old.marks place t.word in_marks (p % 16) (v % 64) (was.noted v p there)))
            (subst (λ (words : List ℕ). bit_at (get_or words place 0) (is.vertex % 64) ≡ 1) (sym marks_are) (now_noted old.marks place t.word in_marks (is.vertex % 64) is.there.set))

        waits_then : (v p : ℕ) → IsWaiting new v p → Contains pairs (v, p)
        waits_then v p waits = by_case (others v p waits)
          where
            by_case : IsWaiting old v p ⊎ (IsTrue opens × (◌≡◌ {A = ℕ × ℕ} pair (v, p))) → Contains pairs (v, p)
            by_case (inl before) = still_listed v p (was.waits v p before)
            by_case (inr (_, same)) = subst (λ (q : ℕ × ℕ). Contains pairs q) same (Contains-push was.pairs pair)

        walked : IsWalk game s new
        walked = record {
          marks = ap length marks_are ∙ length-set old.marks place (bit_or (get_or old.marks place 0) t.word) ∙ was.marks;
          todo = todo;
          pairs = pairs;
          different = all_pairs_push (λ a b. a ≢ b) was.pairs pair was.different (λ k q under. not_met (get_or was.pairs k q) (Contains-get_or was.pairs k q under));
          count = length_push was.pairs pair ∙ ap (λ (k : ℕ). k + 1) was.count ∙ sym many;
          vertex = each (λ v p. v < length game.board.first) was.vertex board;
          position = each (λ v p. IsPositionIn game p) was.position position;
          passage = each (IsPassage game s) was.passage is.passage;
          noted = noted_then;
          room = room;
          waits = waits_then;
        }

        pub goes_one : GoesOn game s old was new (IsInWord t.position t.column t.word)
        unfolding walked
        goes_one = record {
          now = walked;
          kept = still_listed;
          met = λ v p there. subst (λ (q : ℕ × ℕ). Contains pairs q) (one_pair v p there) (Contains-push was.pairs pair);
          only = λ v p there. by_pair v p (Contains-push_cases was.pairs pair (v, p) there);
          still = still;
          opens = λ v p there tries. subst (λ (q : ℕ × ℕ). IsWaiting new q.0 q.1) (one_pair v p there) (here (is.told.1 (subst (λ (q : ℕ × ℕ). IsToTry game s q.0 q.1) (sym (one_pair v p there)) tries)));
          no_other = λ v p waits. by_waits v p (others v p waits);
        }
          where
            by_pair : (v p : ℕ) → Contains was.pairs (v, p) ⊎ (◌≡◌ {A = ℕ × ℕ} pair (v, p)) → Contains was.pairs (v, p) ⊎ IsInWord t.position t.column t.word v p
            by_pair v p (inl before) = inl before
            by_pair v p (inr same) = inr (of_pair v p same)

            by_waits : (v p : ℕ) → IsWaiting old v p ⊎ (IsTrue opens × (◌≡◌ {A = ℕ × ℕ} pair (v, p))) → IsWaiting old v p ⊎ (IsInWord t.position t.column t.word v p × IsToTry game s v p)
            by_waits v p (inl before) = inl before
            by_waits v p (inr (told, same)) = inr (of_pair v p same, subst (λ (q : ℕ × ℕ). IsToTry game s q.0 q.1) same (is.told.0 told))

-- A pair more waits.
module _ (old new : Walk) (q : ℕ × ℕ) (todo : new.todo ≡ slice_set old.todo old.waiting q) (waiting : new.waiting ≡ old.waiting + 1) (below : old.waiting < length old.todo) where
  then_waits : take new.waiting new.todo ≡ take old.waiting old.todo ++ q ∷ []
  then_waits = ap (λ (k : ℕ). take k new.todo) waiting ∙ ap (λ (xs : List (ℕ × ℕ)). take (old.waiting + 1) xs) todo ∙ take_more_set old.todo old.waiting q below

  pub still_waits : (v p : ℕ) → IsWaiting old v p → IsWaiting new v p
  still_waits v p waits = subst (λ (xs : List (ℕ × ℕ)). Contains xs (v, p)) (sym then_waits) (Contains-append_left (take old.waiting old.todo) (q ∷ []) (v, p) waits)

  pub now_waits : IsWaiting new q.0 q.1
  now_waits = subst (λ (xs : List (ℕ × ℕ)). Contains xs q) (sym then_waits) (Contains-push (take old.waiting old.todo) q)

  pub waited_or_new : (v p : ℕ) → IsWaiting new v p → IsWaiting old v p ⊎ (◌≡◌ {A = ℕ × ℕ} q (v, p))
  waited_or_new v p waits = Contains-push_cases (take old.waiting old.todo) q (v, p) (subst (λ (xs : List (ℕ × ℕ)). Contains xs (v, p)) then_waits waits)

-- Nothing more was met, or what was met in two steps.
pub goes_none : (game : AbstractGame) (s : AbstractState) (walk : Walk) (was : IsWalk game s walk) (In : (v p : ℕ) → Type 0) → ((v p : ℕ) → ¬ In v p) → GoesOn game s walk was walk In
goes_none game s walk was In none = record {
  now = was;
  kept = λ v p there. there;
  met = λ v p is. absurd (none v p is);
  only = λ v p there. inl there;
  still = λ v p waits. waits;
  opens = λ v p is tries. absurd (none v p is);
  no_other = λ v p waits. inl waits;
}

module _
    (game : AbstractGame) (s : AbstractState) (old middle new : Walk) (was : IsWalk game s old) (In More Both : (v p : ℕ) → Type 0)
    (one : GoesOn game s old was middle In) (other : GoesOn game s middle one.now new More)
    (apart : (v p : ℕ) → Both v p → In v p ⊎ More v p)
    (of_one : (v p : ℕ) → In v p → Both v p)
    (of_other : (v p : ℕ) → More v p → Both v p)
  where
    pub goes_both : GoesOn game s old was new Both
    goes_both = record {
      now = other.now;
      kept = λ v p there. other.kept v p (one.kept v p there);
      met = λ v p is. met v p (apart v p is);
      only = λ v p there. only v p (other.only v p there);
      still = λ v p waits. other.still v p (one.still v p waits);
      opens = λ v p is tries. opens v p tries (apart v p is);
      no_other = λ v p waits. later v p (other.no_other v p waits);
    }
      where
        met : (v p : ℕ) → In v p ⊎ More v p → Contains other.now.pairs (v, p)
        met v p (inl is) = other.kept v p (one.met v p is)
        met v p (inr is) = other.met v p is

        before : (v p : ℕ) → Contains was.pairs (v, p) ⊎ In v p → Contains was.pairs (v, p) ⊎ Both v p
        before v p (inl there) = inl there
        before v p (inr is) = inr (of_one v p is)

        only : (v p : ℕ) → Contains one.now.pairs (v, p) ⊎ More v p → Contains was.pairs (v, p) ⊎ Both v p
        only v p (inl there) = before v p (one.only v p there)
        only v p (inr is) = inr (of_other v p is)

        opens : (v p : ℕ) → IsToTry game s v p → In v p ⊎ More v p → IsWaiting new v p
        opens v p tries (inl is) = other.still v p (one.opens v p is tries)
        opens v p tries (inr is) = other.opens v p is tries

        earlier : (v p : ℕ) → IsWaiting old v p ⊎ (In v p × IsToTry game s v p) → IsWaiting old v p ⊎ (Both v p × IsToTry game s v p)
        earlier v p (inl waits) = inl waits
        earlier v p (inr (is, tries)) = inr (of_one v p is, tries)

        later : (v p : ℕ) → IsWaiting middle v p ⊎ (More v p × IsToTry game s v p) → IsWaiting old v p ⊎ (Both v p × IsToTry game s v p)
        later v p (inl waits) = earlier v p (one.no_other v p waits)
        later v p (inr (is, tries)) = inr (of_other v p is, tries)

-- The same, told otherwise.
pub goes_as : (game : AbstractGame) (s : AbstractState) (old new : Walk) (was : IsWalk game s old) (In As : (v p : ℕ) → Type 0) → GoesOn game s old was new In → ((v p : ℕ) → In v p → As v p) → ((v p : ℕ) → As v p → In v p) → GoesOn game s old was new As
goes_as game s old new was In As goes to of = record {
  now = goes.now;
  kept = goes.kept;
  met = λ v p is. goes.met v p (of v p is);
  only = λ v p there. only v p (goes.only v p there);
  still = goes.still;
  opens = λ v p is tries. goes.opens v p (of v p is) tries;
  no_other = λ v p waits. no_other v p (goes.no_other v p waits);
}
  where
    only : (v p : ℕ) → Contains was.pairs (v, p) ⊎ In v p → Contains was.pairs (v, p) ⊎ As v p
    only v p (inl there) = inl there
    only v p (inr is) = inr (to v p is)

    no_other : (v p : ℕ) → IsWaiting old v p ⊎ (In v p × IsToTry game s v p) → IsWaiting old v p ⊎ (As v p × IsToTry game s v p)
    no_other v p (inl waits) = inl waits
    no_other v p (inr (is, tries)) = inr (to v p is, tries)

-- The last that waits is taken.
module _ (game : AbstractGame) (s : AbstractState) (old new : Walk) (was : IsWalk game s old) (v p : ℕ) (takes : TakesLast old new v p) where
  pub todo_kept : new.todo ≡ old.todo
  todo_kept = ap (λ (x : Walk). x.todo) takes.rest

  in_todo : new.waiting < length old.todo
  in_todo =
      let less = takes.less in
      let room = was.room in
      let size = was.todo in
      omega (arith, less, room, size)

  waited : take old.waiting old.todo ≡ take new.waiting old.todo ++ (v, p) ∷ []
  waited = ap (λ (k : ℕ). take k old.todo) takes.less ∙ take_more old.todo new.waiting (v, p) in_todo ∙ ap (λ (q : ℕ × ℕ). take new.waiting old.todo ++ q ∷ []) last
    where
      last : get_or old.todo new.waiting (v, p) ≡ (v, p)
      last = get_or_from_slice_get old.todo new.waiting (v, p) (v, p) takes.last

  pub was_waiting : IsWaiting old v p
  was_waiting = subst (λ (xs : List (ℕ × ℕ)). Contains xs (v, p)) (sym waited) (Contains-push (take new.waiting old.todo) (v, p))

  pub waited_before : (u r : ℕ) → IsWaiting new u r → IsWaiting old u r
  waited_before u r waits =
      let there : Contains (take new.waiting old.todo) (u, r) = subst (λ (xs : List (ℕ × ℕ)). Contains (take new.waiting xs) (u, r)) todo_kept waits in
      subst (λ (xs : List (ℕ × ℕ)). Contains xs (u, r)) (sym waited) (Contains-append_left (take new.waiting old.todo) ((v, p) ∷ []) (u, r) there)

  pub waits_or_taken : (u r : ℕ) → IsWaiting old u r → IsWaiting new u r ⊎ (◌≡◌ {A = ℕ × ℕ} (v, p) (u, r))
  waits_or_taken u r waits = by_case (Contains-push_cases (take new.waiting old.todo) (v, p) (u, r) (subst (λ (xs : List (ℕ × ℕ)). Contains xs (u, r)) waited waits))
    where
      by_case : Contains (take new.waiting old.todo) (u, r) ⊎ (◌≡◌ {A = ℕ × ℕ} (v, p) (u, r)) → IsWaiting new u r ⊎ (◌≡◌ {A = ℕ × ℕ} (v, p) (u, r))
      by_case (inl there) = inl (subst (λ (xs : List (ℕ × ℕ)). Contains (take new.waiting xs) (u, r)) (sym todo_kept) there)
      by_case (inr same) = inr same

  abbrev pub taken : IsWalk game s new
  taken = record {
    marks = ap (λ (x : Walk). length x.marks) takes.rest ∙ was.marks;
    todo = ap length todo_kept ∙ was.todo;
    pairs = was.pairs;
    different = was.different;
    count = was.count ∙ sym (ap (λ (x : Walk). x.many) takes.rest);
    vertex = was.vertex;
    position = was.position;
    passage = was.passage;
    noted = λ u r there. subst (λ (words : List ℕ). bit_at (get_or words (r % 16) 0) (u % 64) ≡ 1) (sym (ap (λ (x : Walk). x.marks) takes.rest)) (was.noted u r there);
    room =
        let less = takes.less in
        let room = was.room in
        omega (arith, less, room);
    waits = λ u r waits. was.waits u r (waited_before u r waits);
  }

-- A walk from a vertex, told of the semi-state there.
module _ (game : AbstractGame) (lawful : IsGame game) (s : AbstractState) (fits : IsStateOf game s) (f : Start) (vertex : ℕ) (below : vertex < length game.board.first) where
  abbrev here : AbstractState
  here = at_vertex s vertex

  fits_here : IsStateOf game here
  fits_here = let there : vertex < length s.pieces = subst (λ (k : ℕ). vertex < k) (sym fits.vertices) below in search Rattle.std.proofs.Common.rules

  try_there : (u p : ℕ) → IsToTry game here u p → IsToTry game s u p
  try_there u p is = record {
    quiet = is.quiet;
    stands = is.stands;
    holds = λ e r g stands. let passes = is.holds e r g stands in record { to = passes.to; quiet = passes.quiet; applies = passes.applies };
  }

  try_here : (u p : ℕ) → IsToTry game s u p → IsToTry game here u p
  try_here u p is = record {
    quiet = is.quiet;
    stands = is.stands;
    holds = λ e r g stands. let passes = is.holds e r g stands in record { to = passes.to; quiet = passes.quiet; applies = passes.applies };
  }

  -- What was met and holds waits, where it is met by leaps that were met last.
  wanted : (u p : ℕ) → IsMet leaping game here f u p → Holds game here u p → IsToTry game s u p
  wanted u p met holds = try_there u p (holds_to_try leaping game lawful here fits_here f u p met holds)

  pub walk_begins : (old new : Walk) (was : IsWalk game s old) (ends : Bool) → ((v p : ℕ) → ¬ Contains was.pairs (v, p)) → ((v p : ℕ) → ¬ IsWaiting old v p) → GoesOn game s old was new (λ v p. IsLeap game f vertex p v) → IsTrue ends ↔ EndsAcross game f vertex → Walks game s here f new ends
  walk_begins old new was ends none idle goes told = record {
    is_walk = goes.now;
    begun = record {
      sound = λ v p has. first (leap_of v p (goes.only v p has));
      begun = λ v p leap. goes.met v p leap;
      closed = λ v q u p has closed holds leap. absurd (closed (opened v q has holds));
      to_try = λ v p waits. try_here v p (tries v p (goes.no_other v p waits));
      sound_end = λ is. inl (told.0 is);
      begun_end = λ end. told.1 end;
      closed_end = λ v q has closed holds end. absurd (closed (opened v q has holds));
    };
  }
    where
      leap_of : (v p : ℕ) → Contains was.pairs (v, p) ⊎ IsLeap game f vertex p v → IsLeap game f vertex p v
      leap_of v p (inl there) = absurd (none v p there)
      leap_of v p (inr leap) = leap

      opened : (v p : ℕ) → Contains goes.now.pairs (v, p) → Holds game here v p → IsWaiting new v p
      opened v p has holds =
          let leap = leap_of v p (goes.only v p has) in
          goes.opens v p leap (wanted v p (first leap) holds)

      tries : (v p : ℕ) → IsWaiting old v p ⊎ (IsLeap game f vertex p v × IsToTry game s v p) → IsToTry game s v p
      tries v p (inl waits) = absurd (idle v p waits)
      tries v p (inr (_, is)) = is

  -- The last that waits is taken, and led on from.
  module _
      (old middle : Walk) (v q : ℕ) (ends : Bool) (walks : Walks game s here f old ends) (takes : TakesLast old middle v q)
    where
      abbrev pub was : IsWalk game s middle
      was = taken game s old middle walks.is_walk v q takes

      has : Contains walks.is_walk.pairs (v, q)
      has = walks.is_walk.waits v q (was_waiting game s old middle walks.is_walk v q takes)

      met : IsMet leaping game here f v q
      met = walks.begun.sound v q has

      pub holds : Holds game here v q
      holds =
          let tries = try_there v q (walks.begun.to_try v q (was_waiting game s old middle walks.is_walk v q takes)) in
          let passes = (walks.is_walk.passage v q has).passes tries in
          record { to = passes.to; quiet = passes.quiet; applies = passes.applies }

      pub starts : IsStart game.rules (after q)
      starts = (holds.applies.action, holds.applies.stands)

      pub on_board : v < length game.board.first
      on_board = walks.is_walk.vertex v q has

      module _ (new : Walk) (all : Bool) (goes : GoesOn game s middle was new (λ u p. IsLeap game (after q) v p u)) (learns : LearnsEnd ends all (EndsAcross game (after q) v)) where
        met_then : (u p : ℕ) → Contains walks.is_walk.pairs (u, p) ⊎ IsLeap game (after q) v p u → IsMet leaping game here f u p
        met_then u p (inl there) = walks.begun.sound u p there
        met_then u p (inr leap) = then met holds leap

        tries_then : (u p : ℕ) → IsWaiting middle u p ⊎ (IsLeap game (after q) v p u × IsToTry game s u p) → IsToTry game here u p
        tries_then u p (inl waits) = walks.begun.to_try u p (waited_before game s old middle walks.is_walk v q takes u p waits)
        tries_then u p (inr (_, is)) = try_here u p is

        -- A pair is the one that was taken, or another.
        same_pair : (u p : ℕ) → (◌≡◌ {A = ℕ × ℕ} (v, q) (u, p)) ⊎ ((◌≡◌ {A = ℕ × ℕ} (v, q) (u, p)) → ⊥)
        same_pair u p = elim (ℕ_discrete v u) [
          | no other ↦ inr (λ same. other (ap (λ (x : ℕ × ℕ). x.0) same))
          | yes vertices ↦ elim (ℕ_discrete q p) [
            | no other ↦ inr (λ same. other (ap (λ (x : ℕ × ℕ). x.1) same))
            | yes positions ↦ inl (λ i. (vertices i, positions i))
          ]
        ]

        idle_before : (u p : ℕ) → ¬ IsWaiting new u p → ((◌≡◌ {A = ℕ × ℕ} (v, q) (u, p)) → ⊥) → ¬ IsWaiting old u p
        idle_before u p idle other waits = by_case (waits_or_taken game s old middle walks.is_walk v q takes u p waits)
          where
            by_case : IsWaiting middle u p ⊎ (◌≡◌ {A = ℕ × ℕ} (v, q) (u, p)) → ⊥
            by_case (inl still) = idle (goes.still u p still)
            by_case (inr same) = other same

        opened : (u p : ℕ) → IsLeap game (after q) v p u → Holds game here u p → IsWaiting new u p
        opened u p leap is = goes.opens u p leap (wanted u p (then met holds leap) is)

        leaps : (u p w r : ℕ) → ¬ IsWaiting new u p → Holds game here u p → IsLeap game (after p) u r w → Contains walks.is_walk.pairs (u, p) ⊎ IsLeap game (after q) v p u → Contains goes.now.pairs (w, r)
        leaps u p w r idle is leap (inr last) = absurd (idle (opened u p last is))
        leaps u p w r idle is leap (inl there) = by_case (same_pair u p)
          where
            by_case : (◌≡◌ {A = ℕ × ℕ} (v, q) (u, p)) ⊎ ((◌≡◌ {A = ℕ × ℕ} (v, q) (u, p)) → ⊥) → Contains goes.now.pairs (w, r)
            by_case (inl same) = goes.met w r (subst (λ (x : ℕ × ℕ). IsLeap game (after x.1) x.0 r w) (sym same) leap)
            by_case (inr other) = goes.kept w r (walks.begun.closed u p w r there (idle_before u p idle other) is leap)

        ends_there : (u p : ℕ) → ¬ IsWaiting new u p → Holds game here u p → EndsAcross game (after p) u → Contains walks.is_walk.pairs (u, p) ⊎ IsLeap game (after q) v p u → all ≡ true
        ends_there u p idle is end (inr last) = absurd (idle (opened u p last is))
        ends_there u p idle is end (inl there) = by_case (same_pair u p)
          where
            by_case : (◌≡◌ {A = ℕ × ℕ} (v, q) (u, p)) ⊎ ((◌≡◌ {A = ℕ × ℕ} (v, q) (u, p)) → ⊥) → all ≡ true
            by_case (inl same) = learns.all (subst (λ (x : ℕ × ℕ). EndsAcross game (after x.1) x.0) (sym same) end)
            by_case (inr other) = learns.kept (walks.begun.closed_end u p there (idle_before u p idle other) is end)

        end_then : (ends ≡ true) ⊎ EndsAcross game (after q) v → EndsMet leaping game here f
        end_then (inl before) = walks.begun.sound_end before
        end_then (inr end) = inr (record { vertex = v; position = q; met = met; holds = holds; ends = end })

        pub walk_more : Walks game s here f new all
        walk_more = record {
          is_walk = goes.now;
          begun = record {
            sound = λ u p is. met_then u p (goes.only u p is);
            begun = λ u p leap. goes.kept u p (walks.begun.begun u p leap);
            closed = λ u p w r is idle so leap. leaps u p w r idle so leap (goes.only u p is);
            to_try = λ u p waits. tries_then u p (goes.no_other u p waits);
            sound_end = λ is. end_then (learns.only is);
            begun_end = λ end. learns.kept (walks.begun.begun_end end);
            closed_end = λ u p is idle so end. ends_there u p idle so end (goes.only u p is);
          };
        }

  -- Where none waits, all was met.
  pub walk_ends : (walk : Walk) (ends : Bool) → Walks game s here f walk ends → walk.waiting ≡ 0 → IsDeadEnd game here f walk.many ends
  walk_ends walk ends walks none = record {
    candidates = record {
      pairs = walks.is_walk.pairs;
      all = λ v p. (λ there. part_of leaping game lawful.numbered here f v p (walks.begun.sound v p there), λ candidate. listed v p candidate);
      different = walks.is_walk.different;
      count = walks.is_walk.count;
    };
    few = few_walked game s walk walks.is_walk;
    no_modifier = λ v p candidate. (walks.is_walk.passage v p (listed v p candidate)).quiet;
    no_pattern = λ v p candidate. (walks.is_walk.passage v p (listed v p candidate)).plain;
    may_end =
        let met = ends_are_met leaping game here f (λ v p. Contains walks.is_walk.pairs (v, p)) (IsWaiting walk) ends walks.begun idle in
        let law = (chain_law leaping game lawful.numbered here f).1 in
        ((λ told. law.0 (met.0 told)), (λ end. met.1 (law.1 end)));
  }
    where
      idle : (v p : ℕ) → ¬ IsWaiting walk v p
      idle = none_waits walk none

      listed : (v p : ℕ) → IsCandidate game here f v p → Contains walks.is_walk.pairs (v, p)
      listed v p candidate = all_marked leaping game here f (λ v p. Contains walks.is_walk.pairs (v, p)) (IsWaiting walk) ends walks.begun idle v p (met_of leaping game lawful.numbered here f v p candidate)
