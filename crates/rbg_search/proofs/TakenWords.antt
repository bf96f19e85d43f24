-- Patterns that were asked at the vertices of a word are taken by sets.
use Rattle.rbg_base.proofs.Common.{◌≡◌, ℕ, ◌+◌, ◌*◌, ◌/◌, ◌%◌, ◌<◌, ◌⊎◌, inl, inr, List, [], ◌∷◌, ◌++◌, length, refl, sym, ap, subst, ◌∙◌, arith, Contains, ◌↔◌, bit_at, append-nil, ℕ_discrete, Contains-append_left, Contains-append_right, Contains-append_cases}
use Rattle.rbg_base.proofs.CallerLemmas.{Contains-map}
use Rattle.rbg_rules.specs.Meaning.{IsNumbered, IsPatternAt, Start, AbstractGame, AbstractState, Applies}
use Rattle.rbg_state.specs.History.{History}
use Rattle.rbg_flat.specs.declared.flat.Flat.{Flat}
use Rattle.rbg_flat.specs.internal.Gathering.{Lists, IsBitOf, at_position}
use Rattle.rbg_flat.specs.internal.Sets.{IsInWord, IsDone, KeepsDone, IsLastOf, IsMarked, IsOpen}
use Rattle.rbg_flat.proofs.Common.{Way, Holds}
use Rattle.rbg_flat.proofs.ChainLemmas.{stays_there}
use Rattle.rbg_search.proofs.Along.{at_vertex}
use Rattle.rbg_search.proofs.Asking.{no_modifier}
use Rattle.rbg_search.proofs.Common.{Searching, Finds, FindsBySets, IsToBeAsked}
use Rattle.rbg_search.proofs.Counted.{search_before}
use Rattle.rbg_search.proofs.DeadWords.{in_map, no_bit}
use Rattle.rbg_search.proofs.FindingBySets.{reached_here, not_yet_asked}
use Rattle.rbg_search.proofs.Kept.{rules_before}
use Rattle.rbg_search.proofs.Takings.{no_shift}
use Rattle.rbg_search.specs.internal.BySets.{AreAsked}
use Rattle.rbg_search.specs.internal.DeadWords.{AreFresh, AreWaiting, AsksDead, IsWaiting, TakesWord, TellsValid}

-- A pattern holds exactly where it is valid.
pub holds_if : (game : AbstractGame) → IsNumbered game.rules → (s : AbstractState) (v p : ℕ) (Valid : Type 0) → IsPatternAt game.rules p → Valid ↔ Applies game p (at_vertex s v) (at_vertex s v) → Valid ↔ Holds game s v p
holds_if game numbered s v p Valid pattern decides = (
  (λ yes. record { to = v; quiet = no_modifier game.rules numbered p pattern; applies = decides.0 yes }),
  (λ holds. decides.1 (stays_there game numbered s v p (no_shift game.rules numbered p pattern) holds)),
)

-- .. told by bits.
pub bits_hold : (game : AbstractGame) → IsNumbered game.rules → (s : AbstractState) (p c asked held : ℕ) → IsPatternAt game.rules p → TellsValid game s p c asked held → (b : ℕ) → b < 64 → bit_at asked b ≡ 1 → (bit_at held b ≡ 1) ↔ Holds game s (c * 64 + b) p
bits_hold game numbered s p c asked held pattern tells b small set =
    holds_if game numbered s (c * 64 + b) p (bit_at held b ≡ 1) pattern
    (subst (λ (k : ℕ). (bit_at held k ≡ 1) ↔ Applies game p (at_vertex s (c * 64 + b)) (at_vertex s (c * 64 + b))) rest (tells (c * 64 + b) (record { column = omega (arith, small); set = subst (λ (k : ℕ). bit_at asked k ≡ 1) (sym rest) set })))
  where
    rest : (c * 64 + b) % 64 ≡ b
    rest = omega (arith, small)

-- A vertex at a position is in a word, or not.
in_word_or_not : (q c word v p : ℕ) → IsInWord q c word v p ⊎ (¬ IsInWord q c word v p)
in_word_or_not q c word v p = elim (ℕ_discrete p q) [
  | no other ↦ inr (λ is. other is.position)
  | yes at ↦ elim (ℕ_discrete (v / 64) c) [
    | no other ↦ inr (λ is. other is.column)
    | yes column ↦ elim (ℕ_discrete (bit_at word (v % 64)) 1) [
      | no other ↦ inr (λ is. other is.set)
      | yes set ↦ inl (record { position = at; column = column; set = set })
    ]
  ]
]

-- The vertices of a word were asked.
pub asked_word : (game : AbstractGame) (old new : Flat) (q c asked : ℕ) → KeepsDone old.sets new.sets → ((v : ℕ) → IsInWord q c asked v q → IsDone new.sets v q) → ((v p : ℕ) → IsPatternAt game.rules p → ¬ IsInWord q c asked v p → IsDone new.sets v p → IsDone old.sets v p) → (pairs : List (ℕ × ℕ)) (vertices : List ℕ) → Lists (IsBitOf c asked) vertices → AreAsked game old pairs → AreAsked game new (pairs ++ at_position q vertices)
asked_word game old new q c asked still done quiet pairs vertices lists was = record {
  done = λ v p there. elim (Contains-append_cases pairs (at_position q vertices) (v, p) there) [
    | inl earlier ↦ still v p (was.done v p earlier)
    | inr now ↦
        let back = in_map (λ (x : ℕ). (x, q)) vertices (v, p) now in
        subst (λ (x : ℕ × ℕ). IsDone new.sets x.0 x.1) back.2 (done_at back.0 back.1)
  ];
  all = λ v p pattern is. elim (in_word_or_not q c asked v p) [
    | inl there ↦ Contains-append_right pairs (at_position q vertices) (v, p) (listed v p there)
    | inr other ↦ Contains-append_left pairs (at_position q vertices) (v, p) (was.all v p pattern (quiet v p pattern other is))
  ];
}
  where
    done_at : (x : ℕ) → Contains vertices x → IsDone new.sets x q
    done_at x there =
        let bit = (lists.all x).0 there in
        done x (record { position = refl; column = bit.column; set = bit.set })

    listed : (v p : ℕ) → IsInWord q c asked v p → Contains (at_position q vertices) (v, p)
    listed v p there =
        subst (λ (x : ℕ). Contains (at_position q vertices) (v, x)) (sym there.position)
        (Contains-map (λ (x : ℕ). (x, q)) vertices v ((lists.all v).1 (record { column = there.column; set = there.set })))

-- Some of the vertices that wait.
pub waiting_less : (game : AbstractGame) (flat : Flat) (p c word asked : ℕ) → ((b : ℕ) → bit_at asked b ≡ 1 → bit_at word b ≡ 1) → AreWaiting game flat p c word → AreWaiting game flat p c asked
waiting_less game flat p c word asked within are = record { board = λ b set. are.board b (within b set); waits = λ b set. are.waits b (within b set) }

-- Where no bit is set, there is no vertex.
none_listed : (c asked : ℕ) → asked ≡ 0 → (vertices : List ℕ) → Lists (IsBitOf c asked) vertices → vertices ≡ []
none_listed c asked none [] lists = refl
none_listed c asked none (v ∷ vs) lists = absurd (no_bit (v % 64) (subst (λ (n : ℕ). bit_at n (v % 64) ≡ 1) none ((lists.all v).0 (0, omega arith, refl)).set))

-- Each vertex that waits in the column of one that is to be asked is to be asked.
also_asked : (game : AbstractGame) (flat : Flat) (w p v asked : ℕ) → IsToBeAsked game flat w p → AreWaiting game flat p (w / 64) asked → IsBitOf (w / 64) asked v → IsToBeAsked game flat v p
also_asked game flat w p v asked next are is = record {
  pattern = next.pattern;
  vertex = subst (λ (x : ℕ). x < length game.board.first) same (are.board (v % 64) is.set);
  marked = subst (λ (x : ℕ). IsMarked flat.sets x p) same waits.marked;
  is_open = subst (λ (x : ℕ). IsOpen flat.sets x p) same waits.is_open;
  last = subst (λ (x : ℕ). IsLastOf flat.sets.waiting (p * flat.sets.columns + x)) (sym is.column) next.last;
}
  where
    waits : IsWaiting flat p (w / 64) (v % 64)
    waits = are.waits (v % 64) is.set

    same : w / 64 * 64 + v % 64 ≡ v
    same = let column = is.column in omega (arith, column)

module _
    {way : Way} {first h k : Searching} {s l : History} {f : Start} {flat : Flat} (is : FindsBySets way first h s l f flat)
    (w p asked held : ℕ)
    (next : IsToBeAsked h.game flat w p)
    (are : AreWaiting h.game flat p (w / 64) asked)
    (asks : AsksDead h k l p (w / 64) asked held)
  where
    fresh : AreFresh first s f is.pairs p asks.vertices
    fresh = record {
      reached = λ v there. reached_here is v p (also_asked h.game flat w p v asked next are ((asks.lists.all v).0 there));
      fresh = λ v there. not_yet_asked is v p (also_asked h.game flat w p v asked next are ((asks.lists.all v).0 there));
    }

    found : Finds first k s l f (is.pairs ++ at_position p asks.vertices)
    found = asks.finds first s f is.pairs is.finds (rules_before (λ x. IsPatternAt x.rules p) first h is.finds.kept next.pattern) fresh

    -- Some were asked, and taken.
    pub dead_taken : (flat' : Flat) → TakesWord way k.game l.state flat flat' p (w / 64) asked held → FindsBySets way first k s l f flat'
    dead_taken flat' takes =
        let here : TakesWord way first.game s.state flat flat' p (w / 64) asked held = search_before (λ y z. TakesWord way y.game z flat flat' p (w / 64) asked held) first k s l found.kept found.given_back takes in
        let tells : TellsValid first.game s.state p (w / 64) asked held = search_before (λ y z. TellsValid y.game z p (w / 64) asked held) first h s l is.finds.kept is.finds.given_back asks.told in
        record {
          pairs = is.pairs ++ at_position p asks.vertices;
          finds = found;
          asked = here.done is.pairs asks.vertices asks.lists is.asked;
          sets = here.sets;
          begun = here.begun f tells is.begun;
        }

    -- None was asked.
    pub dead_left : asked ≡ 0 → FindsBySets way first k s l f flat
    dead_left none = record {
      pairs = is.pairs;
      finds = subst (λ (x : List (ℕ × ℕ)). Finds first k s l f x) same found;
      asked = is.asked;
      sets = is.sets;
      begun = is.begun;
    }
      where
        same : is.pairs ++ at_position p asks.vertices ≡ is.pairs
        same = ap (λ (vs : List ℕ). is.pairs ++ at_position p vs) (none_listed (w / 64) asked none asks.vertices asks.lists) ∙ append-nil is.pairs
