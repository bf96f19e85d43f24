-- Places from which nothing goes on.
use Rattle.rbg_base.proofs.Common.{rules, ◌≡◌, ◌≢◌, ℕ, ◌+◌, ◌*◌, ◌%◌, ◌<◌, ◌≤◌, ◌⊎◌, inl, inr, List, [], ◌∷◌, ◌++◌, length, get_or, take, Bool, refl, sym, ap, subst, ◌∙◌, arith, ◌↔◌, Contains, IsTrue, bit_at, ℕ_discrete, bit_at-zero, length_push, All-push, All-weaker, Contains-push, Contains-push_cases, Contains-append_left}
use Rattle.std.proofs.Math.Nat.{le-mul_of_pos_right}
use Rattle.std.proofs.lemmas.List.Quantifiers.{all_pairs_push}
use Rattle.rbg_rules.specs.Meaning.{IsGame, IsModifierAt, positions_of, AbstractGame, AbstractState, IsStateOf, Start}
use Rattle.rbg_shifts.proofs.Common.{AreTargetsFrom, IsLeap, EndsAcross}
use Rattle.rbg_shifts.specs.declared.target.Target.{Target}
use Rattle.rbg_flat.proofs.Common.{leaping, IsCandidate, at_vertex, Holds, IsMet, first, then, EndsMet, IsDeadEnd, AreDead, IsDead, IsDeadTarget, IsFilledTarget, IsAmong, IsToTry, IsInWord}
use Rattle.rbg_flat.proofs.ChainLemmas.{end_of, met_end_of, met_of, part_of}
use Rattle.rbg_flat.proofs.Leadings.{one_more, among_apart, among_first, among_second, none_among}
use Rattle.rbg_flat.proofs.Leaping.{among_leap, leap_among}
use Rattle.rbg_flat.proofs.ToTry.{holds_to_try, pattern_to_try}

pub no_bit : (word b : ℕ) → word ≡ 0 → bit_at word b ≡ 1 → ⊥
no_bit word b none set =
    let clear : bit_at word b ≡ 0 = ap (λ (k : ℕ). bit_at k b) none ∙ bit_at-zero b in
    omega (arith, set, clear)

-- A target of one vertex, at which nothing goes on.
module _
    (game : AbstractGame) (s : AbstractState) (t : Target) (bit rest opens both : ℕ)
    (small : bit < 64) (set : bit_at t.word bit ≡ 1)
    (others : (b : ℕ) → b ≢ bit → bit_at rest b ≡ bit_at t.word b) (one : rest ≡ 0)
    (quiet : ¬ IsModifierAt game.rules t.position)
    (told : (b : ℕ) → b < 64 → (bit_at opens b ≡ 1) ↔ IsToTry game s (t.column * 64 + b) t.position)
    (shared : (b : ℕ) → bit_at t.word b ≡ 1 → bit_at opens b ≡ 1 → bit_at both b ≡ 1) (none : both ≡ 0)
  where
    same_bit : (b : ℕ) → bit_at t.word b ≡ 1 → b ≡ bit
    same_bit b has = elim (ℕ_discrete b bit) [
      | yes same ↦ same
      | no other ↦ absurd (no_bit rest b one (others b other ∙ has))
    ]

    pub dead_target : IsDeadTarget game s t
    dead_target = record {
      vertex = t.column * 64 + bit;
      there = record {
        position = refl;
        column = omega (arith, small);
        set = subst (λ (k : ℕ). bit_at t.word k ≡ 1) bit_there set;
      };
      only = λ v p there. let column = there.column in let same = same_bit (v % 64) there.set in omega (arith, column, same);
      dead = record { quiet = quiet; closed = λ is. no_bit both bit none (shared bit set ((told bit small).1 is)) };
    }
      where
        bit_there : bit ≡ (t.column * 64 + bit) % 64
        bit_there = omega (arith, small)

pub no_dead : (game : AbstractGame) (s : AbstractState) → AreDead game s [] 0
no_dead game s = record {
  pairs = [];
  all = λ v p. (λ there. absurd (no_index there.0 there.1), λ among. absurd (none_among v p among));
  different = λ i j d less within. absurd (omega (arith, less, within));
  count = refl;
  dead = λ v p among. absurd (none_among v p among);
  up_to = λ k d under. absurd (no_index k under);
  few = omega arith;
  there = omega arith;
}
  where
    no_index : (k : ℕ) → k < 0 → ⊥
    no_index k h = omega (arith, h)

-- One target more.
module _ (game : AbstractGame) (s : AbstractState) (targets : List Target) (i last : ℕ) (d : Target) (below : i < length targets) (so_far : AreDead game s (take i targets) last) where
  abbrev t : Target
  t = get_or targets i d

  module _ (filled : IsFilledTarget game t) (greater : last < t.position) (is : IsDeadTarget game s t) where
    abbrev more : List (ℕ × ℕ)
    more = so_far.pairs ++ (is.vertex, t.position) ∷ []

    in_word : (v p : ℕ) → ◌≡◌ {A = ℕ × ℕ} (is.vertex, t.position) (v, p) → IsInWord t.position t.column t.word v p
    in_word v p same = subst (λ (q : ℕ × ℕ). IsInWord t.position t.column t.word q.0 q.1) same is.there

    listed : (v p : ℕ) → IsInWord t.position t.column t.word v p → Contains more (v, p)
    listed v p there =
        subst (λ (u : ℕ). Contains more (u, p)) (sym (is.only v p there))
        (subst (λ (q : ℕ). Contains more (is.vertex, q)) (sym there.position) (Contains-push so_far.pairs (is.vertex, t.position)))

    dead_there : (v p : ℕ) → IsInWord t.position t.column t.word v p → IsDead game s v p
    dead_there v p there =
        subst (λ (u : ℕ). IsDead game s u p) (sym (is.only v p there)) (subst (λ (q : ℕ). IsDead game s is.vertex q) (sym there.position) is.dead)

    to_among : (v p : ℕ) → Contains more (v, p) → IsAmong (take (i + 1) targets) v p
    to_among v p there = by_case (Contains-push_cases so_far.pairs (is.vertex, t.position) (v, p) there)
      where
        by_case : Contains so_far.pairs (v, p) ⊎ (◌≡◌ {A = ℕ × ℕ} (is.vertex, t.position) (v, p)) → IsAmong (take (i + 1) targets) v p
        by_case (inl was) = among_first targets i d below v p ((so_far.all v p).0 was)
        by_case (inr same) = among_second targets i d below v p (in_word v p same)

    of_among : (v p : ℕ) → IsAmong (take (i + 1) targets) v p → Contains more (v, p)
    of_among v p among = by_case (among_apart targets i d below v p among)
      where
        by_case : IsAmong (take i targets) v p ⊎ IsInWord t.position t.column t.word v p → Contains more (v, p)
        by_case (inl was) = Contains-append_left so_far.pairs ((is.vertex, t.position) ∷ []) (v, p) ((so_far.all v p).1 was)
        by_case (inr there) = listed v p there

    all_dead : (v p : ℕ) → IsAmong (take (i + 1) targets) v p → IsDead game s v p
    all_dead v p among = by_case (among_apart targets i d below v p among)
      where
        by_case : IsAmong (take i targets) v p ⊎ IsInWord t.position t.column t.word v p → IsDead game s v p
        by_case (inl was) = so_far.dead v p was
        by_case (inr there) = dead_there v p there

    -- It stands at a greater position than all before it.
    new_pair : (k : ℕ) (q : ℕ × ℕ) → k < length so_far.pairs → get_or so_far.pairs k q ≢ (is.vertex, t.position)
    new_pair k q under same =
        let up_to : t.position ≤ last = subst (λ (x : ℕ × ℕ). x.1 ≤ last) same (so_far.up_to k q under) in
        omega (arith, up_to, greater)

    one_longer : length (take (i + 1) targets) ≡ length (take i targets) + 1
    one_longer = ap length (one_more targets i d below) ∙ length_push (take i targets) t

    pub one_more_dead : AreDead game s (take (i + 1) targets) t.position
    one_more_dead = record {
      pairs = more;
      all = λ v p. (to_among v p, of_among v p);
      different = all_pairs_push (λ a b. a ≢ b) so_far.pairs (is.vertex, t.position) so_far.different new_pair;
      count = length_push so_far.pairs (is.vertex, t.position) ∙ ap (λ (k : ℕ). k + 1) so_far.count ∙ sym one_longer;
      dead = all_dead;
      up_to =
          All-push (λ (q : ℕ × ℕ). q.1 ≤ t.position) so_far.pairs (is.vertex, t.position)
          (All-weaker (λ (q : ℕ × ℕ). q.1 ≤ last) (λ (q : ℕ × ℕ). q.1 ≤ t.position) (λ q less. omega (arith, less, greater)) so_far.pairs so_far.up_to) (omega arith);
      few = let few = so_far.few in let longer = one_longer in omega (arith, few, longer, greater);
      there = filled.target.position.there;
    }

-- Each target of leaps has a vertex.
pub filled_targets : (game : AbstractGame) (f : Start) (v : ℕ) (targets : List Target) → AreTargetsFrom game f v targets → (t : Target) → Contains targets t → 0 < t.word
filled_targets game f v targets are t listed = not_none _ (are.some t listed).1.set
  where
    not_none : (b : ℕ) → bit_at t.word b ≡ 1 → 0 < t.word
    not_none b set = elim (ℕ_discrete t.word 0) [
      | yes none ↦ absurd (no_bit t.word b none set)
      | no some ↦ omega (arith, some)
    ]

module _
    (game : AbstractGame) (lawful : IsGame game) (s : AbstractState) (fits : IsStateOf game s) (f : Start) (v : ℕ)
    (below : v < length game.board.first) (targets : List Target) (are : AreTargetsFrom game f v targets)
    (last : ℕ) (dead : AreDead game s targets last) (ends : Bool) (told : IsTrue ends ↔ EndsAcross game f v)
  where
    abbrev here : AbstractState
    here = at_vertex s v

    fits_here : IsStateOf game here
    fits_here = let vertex : v < length s.pieces = subst (λ (k : ℕ). v < k) (sym fits.vertices) below in search rules

    try_there : (u p : ℕ) → IsToTry game here u p → IsToTry game s u p
    try_there u p is = record {
      quiet = is.quiet;
      stands = is.stands;
      holds = λ e r g stands. let passes = is.holds e r g stands in record { to = passes.to; quiet = passes.quiet; applies = passes.applies };
    }

    -- Nothing holds where the first leaps lead, so there are no more.
    not_held : (u p : ℕ) → IsLeap game f v p u → ¬ Holds game here u p
    not_held u p leap holds =
        let among = leap_among game lawful.numbered f v targets are u p leap in
        (dead.dead u p among).closed (try_there u p (holds_to_try leaping game lawful here fits_here f u p (first leap) holds))

    leap_of : (u p : ℕ) → IsMet leaping game here f u p → IsLeap game f v p u
    leap_of u p (first leap) = leap
    leap_of u p (then {v = w} {q = q} met holds leap) = absurd (not_held w q (leap_of w q met) holds)

    candidate_among : (u p : ℕ) → IsCandidate game here f u p → IsAmong targets u p
    candidate_among u p candidate = leap_among game lawful.numbered f v targets are u p (leap_of u p (met_of leaping game lawful.numbered here f u p candidate))

    among_candidate : (u p : ℕ) → IsAmong targets u p → IsCandidate game here f u p
    among_candidate u p among = part_of leaping game lawful.numbered here f u p (first (among_leap game lawful.numbered f v targets are u p among))

    ends_across : EndsMet leaping game here f → EndsAcross game f v
    ends_across (inl end) = end
    ends_across (inr beyond) = absurd (not_held beyond.vertex beyond.position (leap_of beyond.vertex beyond.position beyond.met) beyond.holds)

    few : length targets ≤ length (positions_of game.rules) * length game.board.first
    few =
        let most : length (positions_of game.rules) ≤ length (positions_of game.rules) * length game.board.first = le-mul_of_pos_right (length (positions_of game.rules)) (omega (arith, below)) in
        let up_to = dead.few in
        let there = dead.there in
        omega (arith, most, up_to, there)

    pub dead_end : IsDeadEnd game here f (length targets) ends
    dead_end = record {
      candidates = record {
        pairs = dead.pairs;
        all = λ u p. (λ there. among_candidate u p ((dead.all u p).0 there), λ candidate. (dead.all u p).1 (candidate_among u p candidate));
        different = dead.different;
        count = dead.count;
      };
      few = few;
      no_modifier = λ u p candidate. (dead.dead u p (candidate_among u p candidate)).quiet;
      no_pattern = λ u p candidate pattern. (dead.dead u p (candidate_among u p candidate)).closed (pattern_to_try game lawful.numbered s p pattern u);
      may_end = (
        λ is. end_of leaping game lawful.numbered here f (inl (told.0 is)),
        λ end. told.1 (ends_across (met_end_of leaping game lawful.numbered here f end)),
      );
    }
