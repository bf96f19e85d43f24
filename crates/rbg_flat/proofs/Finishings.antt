-- What is found in the end.
use Rattle.rbg_base.proofs.Common.{◌≡◌, ℕ, ◌+◌, ◌*◌, ◌/◌, ◌^◌, ◌<◌, ◌≤◌, ◌⊎◌, inl, inr, List, [], Bool, true, false, length, refl, sym, ap, subst, ◌∙◌, arith, IsTrue, ◌↔◌, mul-le}
use Rattle.rbg_rules.specs.Meaning.{AbstractAction, shift, on, off, assignment, comparison, switch, positive, negative, IsGame, HasAction, IsModifierAt, IsNumbered, is_modifier, positions_of, AbstractGame, AbstractState, Acts, Applies, Start}
use Rattle.rbg_rules.proofs.PositionLemmas.{one_action_at}
use Rattle.rbg_state.proofs.Trying.{same_value}
use Rattle.rbg_flat.proofs.Common.{Way, IsFound, AreFound, HasPairs, most_candidates, IsBegun, Lists, at_position, Gathers, Keeps, IsGone, IsKept, Gathered, Counted, CountsMet, AreOn, SetsOfVertices, IsMarked, IsOpen, ForgetsPlace, IsMetAt}
use Rattle.rbg_flat.proofs.Countings.{InRow, row_listed, row_apart, row_cases, row_earlier, row_here, counted_more, counted_all, counted_both, few_on}
use Rattle.rbg_flat.proofs.ChainLemmas.{candidate_part, met_of, modifier_plain, part_candidate, part_of}
use Rattle.rbg_flat.proofs.Lists.{lists_none, lists_same, lists_join}
use Rattle.rbg_flat.proofs.Steps.{all_marked}

false_not_true : false ≡ true → ⊥
false_not_true e = cc

-- A modifier that is valid at one vertex is so at each.
module _ (game : AbstractGame) (numbered : IsNumbered game.rules) (s : AbstractState) (p v w : ℕ) (t : AbstractState) where
  by_action : (a : AbstractAction) → HasAction game.rules p a → is_modifier a ≡ true → Acts game a (record s { vertex = v }) t → (u : AbstractState) × Applies game p (record s { vertex = w }) u
  by_action (off x) stands modifies acts = (_, record { action = off x; stands = stands; acts = refl })
  by_action (assignment x e) stands modifies (n, value, small, is) =
      (_, record { action = assignment x e; stands = stands; acts = (n, same_value e s w ∙ sym (same_value e s v) ∙ value, small, refl) })
  by_action (switch n) stands modifies acts = (_, record { action = switch n; stands = stands; acts = refl })
  by_action (shift d) stands modifies acts = absurd (false_not_true modifies)
  by_action (on xs) stands modifies acts = absurd (false_not_true modifies)
  by_action (comparison e r f) stands modifies acts = absurd (false_not_true modifies)
  by_action (positive x) stands modifies acts = absurd (false_not_true modifies)
  by_action (negative x) stands modifies acts = absurd (false_not_true modifies)

  pub everywhere : IsModifierAt game.rules p → Applies game p (record s { vertex = v }) t → (u : AbstractState) × Applies game p (record s { vertex = w }) u
  everywhere modifies applies =
      let same : modifies.action ≡ applies.action = one_action_at game.rules numbered p modifies.action applies.action modifies.stands applies.stands in
      by_action applies.action applies.stands (sym (ap is_modifier same) ∙ modifies.modifies) applies.acts

-- What was gathered was counted.
pub counted_of : (game : AbstractGame) (s : AbstractState) (first now : SetsOfVertices) (found : List (ℕ × ℕ)) (count : ℕ) → Gathered game s first now found count → Counted first now count
counted_of game s first now found count gathered = record { under = gathered.under; pairs = gathered.pairs; lists = gathered.lists; count_is = gathered.count_is }

-- What was gathered, and what was met beside it, is all.
pub rest_counted : (game : AbstractGame) (s : AbstractState) (first now : SetsOfVertices) (found : List (ℕ × ℕ)) (count rest : ℕ) → Gathered game s first now found count → CountsMet (IsMarked now) rest → CountsMet (IsMarked first) (count + rest)
rest_counted game s first now found count rest gathered met = counted_both first now count rest (counted_of game s first now found count gathered) met

-- Where nothing is open, what was met is all that the flat part has.
pub all_pairs : (way : Way) (game : AbstractGame) → IsGame game → (s : AbstractState) (first : SetsOfVertices) (f : Start) (ends : Bool) → IsBegun way game s f (IsMarked first) (IsOpen first) ends → ((v p : ℕ) → ¬ IsOpen first v p) → (many : ℕ) → CountsMet (IsMarked first) many → HasPairs way game s f many
all_pairs way game lawful s first f ends is done many met = record {
  pairs = met.pairs;
  all = λ v p. (
    λ there. part_of way game lawful.numbered s f v p (is.sound v p ((met.all (v, p)).0 there)),
    λ here. (met.all (v, p)).1 (all_marked way game s f (IsMarked first) (IsOpen first) ends is done v p (met_of way game lawful.numbered s f v p here)),
  );
  different = met.different;
  count = met.count;
}

module _ (game : AbstractGame) (lawful : IsGame game) (s : AbstractState) (first : SetsOfVertices) (on_board : AreOn game first) where
  abbrev vertices : ℕ
  vertices = length game.board.first

  -- No more pairs than positions and vertices.
  module _ (now : SetsOfVertices) (pairs : List (ℕ × ℕ)) (lists : Lists (IsGone first now) pairs) where
    pub few_gone : length pairs ≤ most_candidates game
    few_gone = few_on game first on_board pairs lists.different (λ q there. ((lists.all q).0 there).marked)

  -- At first nothing is gathered.
  pub gathered_none : Gathered game s first first [] 0
  gathered_none = record {
    under = λ v p is. is;
    pairs = [];
    lists = lists_none (IsGone first first) (λ q gone. gone.forgotten gone.marked);
    count_is = refl;
    kept = lists_none (IsKept game s first first) (λ q kept. kept.gone.forgotten kept.gone.marked);
  }

  -- What was met at a place is gathered and forgotten.
  module _
      (now new : SetsOfVertices) (found found' : List (ℕ × ℕ)) (count many most place p : ℕ) (keeps : Bool)
      (parts : p ≡ place / now.columns)
      (so_far : Gathered game s first now found count)
      (row : Gathers (IsMetAt now place p) found found' p keeps many most)
      (forgets : ForgetsPlace now new place)
      (told : 0 < p → IsTrue keeps ↔ Keeps game s p)
    where
      so_counted : Counted first now count
      so_counted = counted_of game s first now found count so_far

      in_row : Lists (InRow now place p) (at_position p row.vertices)
      in_row = row_listed first now new place p parts so_far.under forgets row.vertices row.lists

      apart : (q : ℕ × ℕ) → IsGone first now q → InRow now place p q → ⊥
      apart = row_apart first now new place p parts so_far.under forgets

      cases : (q : ℕ × ℕ) → IsGone first new q → IsGone first now q ⊎ InRow now place p q
      cases = row_cases first now new place p parts so_far.under forgets

      earlier : (q : ℕ × ℕ) → IsGone first now q → IsGone first new q
      earlier = row_earlier first now new place p parts so_far.under forgets

      here : (q : ℕ × ℕ) → InRow now place p q → IsGone first new q
      here = row_here first now new place p parts so_far.under forgets

      some_position : (q : ℕ × ℕ) → InRow now place p q → 0 < p
      some_position q is = on_board.from_one q.0 p (so_far.under q.0 p is.1.marked)

      with_row : keeps ≡ true → Lists (IsKept game s first new) found'
      with_row keep =
          subst (λ (xs : List (ℕ × ℕ)). Lists (IsKept game s first new) xs) (sym (row.kept keep))
          (lists_join (IsKept game s first now) (InRow now place p) (IsKept game s first new) found (at_position p row.vertices) so_far.kept in_row
          (λ q kept is. apart q kept.gone is) kept_cases (λ q kept. record { gone = earlier q kept.gone; keeps = kept.keeps }) kept_here)
        where
          kept_case : (q : ℕ × ℕ) → IsKept game s first new q → IsGone first now q ⊎ InRow now place p q → IsKept game s first now q ⊎ InRow now place p q
          kept_case q kept (inl gone) = inl (record { gone = gone; keeps = kept.keeps })
          kept_case q kept (inr is) = inr is

          kept_cases : (q : ℕ × ℕ) → IsKept game s first new q → IsKept game s first now q ⊎ InRow now place p q
          kept_cases q kept = kept_case q kept (cases q kept.gone)

          kept_here : (q : ℕ × ℕ) → InRow now place p q → IsKept game s first new q
          kept_here q is = record { gone = here q is; keeps = subst (λ (k : ℕ). Keeps game s k) (sym is.0) ((told (some_position q is)).0 keep) }

      without_row : keeps ≡ false → Lists (IsKept game s first new) found'
      without_row leave =
          subst (λ (xs : List (ℕ × ℕ)). Lists (IsKept game s first new) xs) (sym (row.left leave))
          (lists_same (IsKept game s first now) (IsKept game s first new) found so_far.kept (λ q kept. record { gone = earlier q kept.gone; keeps = kept.keeps }) kept_before)
        where
          kept_case : (q : ℕ × ℕ) → IsKept game s first new q → IsGone first now q ⊎ InRow now place p q → IsKept game s first now q
          kept_case q kept (inl gone) = record { gone = gone; keeps = kept.keeps }
          kept_case q kept (inr is) = absurd (false_not_true (sym leave ∙ (told (some_position q is)).1 (subst (λ (k : ℕ). Keeps game s k) is.0 kept.keeps)))

          kept_before : (q : ℕ × ℕ) → IsKept game s first new q → IsKept game s first now q
          kept_before q kept = kept_case q kept (cases q kept.gone)

      kept_then : (b : Bool) → keeps ≡ b → Lists (IsKept game s first new) found'
      kept_then true is = with_row is
      kept_then false is = without_row is

      pub gathered_more : Gathered game s first new found' (count + many)
      gathered_more =
          let more = counted_more first now new place p count many parts so_counted row.vertices row.lists row.count forgets in
          record { under = more.under; pairs = more.pairs; lists = more.lists; count_is = more.count_is; kept = kept_then keeps refl }

  -- The sum is a number of 64 bits.
  pub count_fits : (now : SetsOfVertices) (found : List (ℕ × ℕ)) (count many : ℕ) → Gathered game s first now found count → many ≤ 64 → count + many < 2 ^ 64
  count_fits now found count many so_far few =
      let short = few_gone now so_far.pairs so_far.lists in
      let is = so_far.count_is in
      let most : most_candidates game ≤ 20000 * 4096 = mul-le (length (positions_of game.rules)) vertices 20000 4096 lawful.limits.positions lawful.limits.vertices in
      omega (arith, short, is, most, few)

  -- Where all is forgotten, what was met was gathered.
  module _
      (way : Way) (f : Start) (ends : Bool) (now : SetsOfVertices) (found : List (ℕ × ℕ)) (count : ℕ)
      (is : IsBegun way game s f (IsMarked first) (IsOpen first) ends)
      (done : (v p : ℕ) → ¬ IsOpen first v p)
      (none : (v p : ℕ) → ¬ IsMarked now v p)
      (gathered : Gathered game s first now found count)
    where
      pub are_found : AreFound game s f found
      are_found = record {
        next = λ v p. (λ there. found_of v p ((gathered.kept.all (v, p)).0 there), λ here. (gathered.kept.all (v, p)).1 (kept_of v p here));
        different = gathered.kept.different;
      }
        where
          found_of : (v p : ℕ) → IsKept game s first now (v, p) → IsFound game s f v p
          found_of v p kept = record {
            later = (kept.keeps.valid v).0;
            candidate = part_candidate way game s f v p (modifier_plain game lawful.numbered p kept.keeps.modifies) (part_of way game lawful.numbered s f v p (is.sound v p kept.gone.marked));
            modifies = kept.keeps.modifies;
            applies = (kept.keeps.valid v).1;
          }

          kept_of : (v p : ℕ) → IsFound game s f v p → IsKept game s first now (v, p)
          kept_of v p here = record {
            gone = record {
              marked = all_marked way game s f (IsMarked first) (IsOpen first) ends is done v p (met_of way game lawful.numbered s f v p (candidate_part way game s f v p here.candidate));
              forgotten = none v p;
            };
            keeps = record { modifies = here.modifies; valid = λ w. everywhere game lawful.numbered s p v w here.later here.modifies here.applies };
          }

      pub has_pairs : HasPairs way game s f count
      has_pairs = all_pairs way game lawful s first f ends is done count (counted_all first now count none (counted_of game s first now found count gathered))

  pub few_gathered : (now : SetsOfVertices) (found : List (ℕ × ℕ)) (count : ℕ) → Gathered game s first now found count → count ≤ most_candidates game
  few_gathered now found count gathered =
      let short = few_gone now gathered.pairs gathered.lists in
      let same = gathered.count_is in
      omega (arith, short, same)
