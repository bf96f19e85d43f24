-- How what was met is counted, place by place.
use Rattle.rbg_base.proofs.Common.{◌≡◌, ◌≢◌, ℕ, ◌+◌, ◌*◌, ◌/◌, ◌%◌, ◌^◌, ◌<◌, ◌≤◌, ◌⊎◌, inl, inr, List, [], ◌++◌, length, get_or, refl, sym, ap, subst, ◌∙◌, arith, bit_at, All, AllPairs, Contains, mul-le, div-mul-add, Contains-get_or, ℕ_discrete}
use Rattle.std.proofs.lemmas.List.{length-append, length-map}
use Rattle.rbg_rules.specs.Meaning.{IsGame, positions_of, AbstractGame}
use Rattle.rbg_flat.proofs.Common.{most_candidates, Lists, at_position, IsGone, Counted, CountsMet, AreOn, SetsOfVertices, IsMarked, ForgetsPlace, IsMetAt}
use Rattle.rbg_flat.proofs.Numberings.{HasNumber, few_pairs}
use Rattle.rbg_flat.proofs.Lists.{lists_none, lists_join, lists_map}
use Rattle.rbg_flat.proofs.Takings.{bit_decided}

-- The vertex of the pair was met at the place, which is at the position.
abbrev pub InRow : SetsOfVertices → (place p : ℕ) → ℕ × ℕ → Type 0
InRow now place p q = (q.1 ≡ p) × IsMetAt now place p q.0

-- What was met at a place is forgotten.
module _
    (first now new : SetsOfVertices) (place p : ℕ) (parts : p ≡ place / now.columns)
    (under : (v q : ℕ) → IsMarked now v q → IsMarked first v q) (forgets : ForgetsPlace now new place)
  where
    pub row_listed : (vertices : List ℕ) → Lists (IsMetAt now place p) vertices → Lists (InRow now place p) (at_position p vertices)
    row_listed vertices lists = lists_map (λ (v : ℕ). (v, p)) (λ a b same. ap (λ (q : ℕ × ℕ). q.0) same) (IsMetAt now place p) (InRow now place p) vertices lists
        (λ q is. (q.0, is.1, λ i. (q.0, sym is.0 i)))
        (λ v is. (refl, is))

    pub row_apart : (q : ℕ × ℕ) → IsGone first now q → InRow now place p q → ⊥
    row_apart q gone is = gone.forgotten (subst (λ (k : ℕ). IsMarked now q.0 k) (sym is.0) is.1.marked)

    same_position : (q : ℕ × ℕ) → IsMarked now q.0 q.1 → q.1 * now.columns + q.0 / 64 ≡ place → q.1 ≡ p
    same_position q was same = sym (div-mul-add q.1 now.columns (q.0 / 64) was.column) ∙ ap (λ (k : ℕ). k / now.columns) same ∙ sym parts

    pub row_cases : (q : ℕ × ℕ) → IsGone first new q → IsGone first now q ⊎ InRow now place p q
    row_cases q gone = elim (bit_decided now.columns now.marks q.0 q.1) [
      | inr never ↦ inl (record { marked = gone.marked; forgotten = never })
      | inl was ↦ elim (ℕ_discrete (q.1 * now.columns + q.0 / 64) place) [
        | yes same ↦
            let at = same_position q was same in
            inr (at, record { at = ap (λ (k : ℕ). k * now.columns + q.0 / 64) (sym at) ∙ same; marked = subst (λ (k : ℕ). IsMarked now q.0 k) at was })
        | no other ↦ absurd (gone.forgotten (forgets.still q.0 q.1 other was))
      ]
    ]

    pub row_earlier : (q : ℕ × ℕ) → IsGone first now q → IsGone first new q
    row_earlier q gone = record { marked = gone.marked; forgotten = λ is. gone.forgotten (forgets.only q.0 q.1 is) }

    pub row_here : (q : ℕ × ℕ) → InRow now place p q → IsGone first new q
    row_here q is = record {
      marked = under q.0 q.1 (subst (λ (k : ℕ). IsMarked now q.0 k) (sym is.0) is.1.marked);
      forgotten = λ still. forgets.gone q.0 p is.1.at (subst (λ (k : ℕ). IsMarked new q.0 k) is.0 still);
    }

-- .. and was counted.
pub counted_more : (first now new : SetsOfVertices) (place p count many : ℕ) → p ≡ place / now.columns → Counted first now count → (vertices : List ℕ) → Lists (IsMetAt now place p) vertices → many ≡ length vertices → ForgetsPlace now new place → Counted first new (count + many)
counted_more first now new place p count many parts so_far vertices row is forgets = record {
  under = λ v r marked. so_far.under v r (forgets.only v r marked);
  pairs = so_far.pairs ++ at_position p vertices;
  lists =
      lists_join (IsGone first now) (InRow now place p) (IsGone first new) so_far.pairs (at_position p vertices) so_far.lists
      (row_listed first now new place p parts so_far.under forgets vertices row)
      (row_apart first now new place p parts so_far.under forgets)
      (row_cases first now new place p parts so_far.under forgets)
      (row_earlier first now new place p parts so_far.under forgets)
      (row_here first now new place p parts so_far.under forgets);
  count_is =
      let one = so_far.count_is in
      let long = length-append so_far.pairs (at_position p vertices) in
      let pair : ℕ → ℕ × ℕ = λ v. (v, p) in
      let same : length (at_position p vertices) ≡ length vertices = length-map vertices pair in
      omega (arith, one, is, long, same);
}

-- At first nothing is counted.
pub counted_none : (first now : SetsOfVertices) → now.columns ≡ first.columns → now.marks ≡ first.marks → Counted first now 0
counted_none first now columns marks = record {
  under = λ v p is. record {
    column = subst (λ (k : ℕ). v / 64 < k) columns is.column;
    set = subst (λ (words : List ℕ). bit_at (get_or words (p * first.columns + v / 64) 0) (v % 64) ≡ 1) marks (subst (λ (k : ℕ). bit_at (get_or now.marks (p * k + v / 64) 0) (v % 64) ≡ 1) columns is.set);
  };
  pairs = [];
  lists = lists_none (IsGone first now) (λ q gone. gone.forgotten (still q.0 q.1 gone.marked));
  count_is = refl;
}
  where
    still : (v p : ℕ) → IsMarked first v p → IsMarked now v p
    still v p is = record {
      column = subst (λ (k : ℕ). v / 64 < k) (sym columns) is.column;
      set = subst (λ (words : List ℕ). bit_at (get_or words (p * now.columns + v / 64) 0) (v % 64) ≡ 1) (sym marks) (subst (λ (k : ℕ). bit_at (get_or first.marks (p * k + v / 64) 0) (v % 64) ≡ 1) (sym columns) is.set);
    }

-- Where nothing is left, all was counted.
pub counted_all : (first now : SetsOfVertices) (count : ℕ) → ((v p : ℕ) → ¬ IsMarked now v p) → Counted first now count → CountsMet (IsMarked first) count
counted_all first now count none counted = record {
  pairs = counted.pairs;
  all = λ q. (
    λ there. ((counted.lists.all q).0 there).marked,
    λ is. (counted.lists.all q).1 (record { marked = is; forgotten = none q.0 q.1 }),
  );
  different = counted.lists.different;
  count = sym counted.count_is;
}

-- What was counted, and what is counted later, is all.
pub counted_both : (first now : SetsOfVertices) (count rest : ℕ) → Counted first now count → CountsMet (IsMarked now) rest → CountsMet (IsMarked first) (count + rest)
counted_both first now count rest counted met =
    let later : Lists (λ (q : ℕ × ℕ). IsMarked now q.0 q.1) met.pairs = record { all = met.all; different = met.different } in
    let both =
    lists_join (IsGone first now) (λ (q : ℕ × ℕ). IsMarked now q.0 q.1) (λ (q : ℕ × ℕ). IsMarked first q.0 q.1) counted.pairs met.pairs counted.lists later
    (λ q gone is. gone.forgotten is) cases (λ q gone. gone.marked) (λ q is. counted.under q.0 q.1 is) in
    record {
      pairs = counted.pairs ++ met.pairs;
      all = both.all;
      different = both.different;
      count =
          let long = length-append counted.pairs met.pairs in
          let one = counted.count_is in
          let other = met.count in
          omega (arith, long, one, other);
    }
  where
    cases : (q : ℕ × ℕ) → IsMarked first q.0 q.1 → IsGone first now q ⊎ IsMarked now q.0 q.1
    cases q is = elim (bit_decided now.columns now.marks q.0 q.1) [
      | inl still ↦ inr still
      | inr never ↦ inl (record { marked = is; forgotten = never })
    ]

module _ (game : AbstractGame) (first : SetsOfVertices) (on_board : AreOn game first) where
  abbrev vertices_of : ℕ
  vertices_of = length game.board.first

  -- No more pairs than positions and vertices.
  pub few_on : (pairs : List (ℕ × ℕ)) → AllPairs (λ a b. a ≢ b) pairs → ((q : ℕ × ℕ) → Contains pairs q → IsMarked first q.0 q.1) → length pairs ≤ most_candidates game
  few_on pairs different marked =
      let few = few_pairs vertices_of (most_candidates game + vertices_of) pairs different within in
      omega (arith, few)
    where
      within : All (HasNumber vertices_of (most_candidates game + vertices_of)) pairs
      within i d below =
          let q : ℕ × ℕ = get_or pairs i d in
          let one = marked q (Contains-get_or pairs i d below) in
          let vertex = on_board.vertex q.0 q.1 one in
          let most : q.1 * vertices_of ≤ length (positions_of game.rules) * vertices_of = mul-le q.1 vertices_of (length (positions_of game.rules)) vertices_of (on_board.there q.0 q.1 one) (omega arith) in
          record { vertex = vertex; from_one = on_board.from_one q.0 q.1 one; below = omega (arith, vertex, most) }

  pub few_met : (many : ℕ) → CountsMet (IsMarked first) many → many ≤ most_candidates game
  few_met many met =
      let short = few_on met.pairs met.different (λ q there. (met.all q).0 there) in
      let is = met.count in
      omega (arith, short, is)

  -- The sum is a number of 64 bits.
  pub counted_fits : IsGame game → (now : SetsOfVertices) (count many : ℕ) → Counted first now count → many ≤ 64 → count + many < 2 ^ 64
  counted_fits lawful now count many counted few =
      let short = few_on counted.pairs counted.lists.different (λ q there. ((counted.lists.all q).0 there).marked) in
      let is = counted.count_is in
      let most : most_candidates game ≤ 20000 * 4096 = mul-le (length (positions_of game.rules)) vertices_of 20000 4096 lawful.limits.positions lawful.limits.vertices in
      omega (arith, short, is, most, few)

  -- .. also that of what was counted and what is counted later.
  pub both_fit : IsGame game → (many : ℕ) → CountsMet (IsMarked first) many → many < 2 ^ 64
  both_fit lawful many met =
      let short = few_met many met in
      let most : most_candidates game ≤ 20000 * 4096 = mul-le (length (positions_of game.rules)) vertices_of 20000 4096 lawful.limits.positions lawful.limits.vertices in
      omega (arith, short, most)
