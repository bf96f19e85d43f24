use Rattle.rbg_base.proofs.Common.{◌≡◌, ◌<◌, ℕ, length, true, false, sym, ap, ◌∙◌, subst, List, Bool, Contains, Result, Ok, All-contains}
use Rattle.rbg_rules.specs.Meaning.{AbstractGame, AbstractState, IsStateOf, Applies, point_of, Start, IsStart, reach}
use Rattle.rbg_search.specs.Start.{start_of, IsPositionOf}
use Rattle.rbg_search.proofs.Common.{IsAnswered, HasReached, Searching, CountsPairs}
use Rattle.rbg_search.specs.declared.over.Over.{Over}
use Rattle.rbg_state.specs.History.{History}
use Rattle.rbg_moves.specs.internal.Stepping.{at_vertex, IsValidAt}
use Rattle.rbg_moves.proofs.Further.{has_come, come_paired}
use Rattle.rbg_search.proofs.CallerLemmas.{place_start}
use Rattle.rbg_moves.proofs.Steps.{place_after, valid_next, modifier_position}
use Rattle.rbg_moves.proofs.stepping.take.Goals as goal

valid_as : (game game' : AbstractGame) (s s' : AbstractState) (v p : ℕ) → game' ≡ game → s' ≡ s → IsValidAt game s v p → IsValidAt game' s' v p
valid_as game game' s s' v p same here valid =
    subst (λ (g : AbstractGame). IsValidAt g s' v p) (sym same) (subst (λ (t : AbstractState). IsValidAt game t v p) (sym here) valid)

applied_as : (game game' : AbstractGame) (s s' t : AbstractState) (v p : ℕ) → game' ≡ game → s' ≡ s → Applies game' p (at_vertex s' v) t → Applies game p (at_vertex s v) t
applied_as game game' s s' t v p same here applied =
    subst (λ (g : AbstractGame). Applies g p (at_vertex s v) t) same (subst (λ (u : AbstractState). Applies game' p (at_vertex u v) t) here applied)

true_not_false : true ≡ false → ⊥
true_not_false e = cc

pub reach_into-requires-clause-stands : goal.reach_into-requires-clause-stands
reach_into-requires-clause-stands g c =
    let game = c.args.search.now.game in
    let stands = subst (IsStart game.rules) (sym c.origin_after.ensures) (place_start game.rules c.game-game.ensures.lawful.numbered c.args.after c.requires.place.last) in
    subst (λ (x : Searching). IsStart x.game.rules (start_of c.origin_after.result)) (sym c.take_list-pairs.ensures) stands

pub apply_at-requires-clause-valid : goal.apply_at-requires-clause-valid
apply_at-requires-clause-valid g c =
    let game = c.args.search.now.game in
    let s = c.args.state.now.state in
    let q = c.args.pair in
    let items = c.reach_into.new.pairs in
    let come = has_come c.take_list-pairs.ensures c.origin_after.ensures c.reach_into.ensures.answered c.in_ok-reach_into.was c.in_ok-reach_into.ensures.found in
    let has : Contains items q = subst (Contains items) c.pair.view_is (c.contains-comes_next.ensures.0 c.if-comes_next.true) in
    let within = All-contains (λ (r : ℕ × ℕ). (r.0 < length game.board.first) × IsPositionOf game.rules r.1) items q come.found.within has in
    let here : c.reach_into.new.state.state ≡ s = ap (λ (h : History). h.state) c.in_ok-reach_into.ensures.answered.given_back in
    valid_as game c.game-game.result.now s c.reach_into.new.state.state q.0 q.1 c.game-game.ensures.game here (valid_next game c.game-game.ensures.lawful.numbered s (point_of c.args.after) q.0 q.1 within.0 ((come.found.reached.next q.0 q.1).0 has))

pub returns-then-comes_next-clause-taken : goal.returns-then-comes_next-clause-taken
returns-then-comes_next-clause-taken g c _ =
    let game = c.args.search.now.game in
    let s = c.args.state.now.state in
    let q = c.args.pair in
    let items = c.reach_into.new.pairs in
    let later = c.apply_at.new.state.state in
    let come = has_come c.take_list-pairs.ensures c.origin_after.ensures c.reach_into.ensures.answered c.in_ok-reach_into.was c.in_ok-reach_into.ensures.found in
    let next = (come.found.reached.next q.0 q.1).0 (subst (Contains items) c.pair.view_is (c.contains-comes_next.ensures.0 c.if-comes_next.true)) in
    let here : c.reach_into.new.state.state ≡ s = ap (λ (h : History). h.state) c.in_ok-reach_into.ensures.answered.given_back in
    let fits : IsStateOf game later = subst (λ (g : AbstractGame). IsStateOf g later) c.game-game.ensures.game c.apply_at.ensures.fits in
    record {
      next = next;
      applies = applied_as game c.game-game.result.now s c.reach_into.new.state.state later q.0 q.1 c.game-game.ensures.game here c.apply_at.ensures.applied;
      position = modifier_position game c.game-game.ensures.lawful.numbered q.1 next.modifies;
      in_game = place_after game c.game-game.ensures.lawful.numbered later q.1 next.modifies fits;
    }

pub returns-else-comes_next-clause-refused : goal.returns-else-comes_next-clause-refused
returns-else-comes_next-clause-refused g c _ next =
    let q = c.args.pair in
    let items = c.reach_into.new.pairs in
    let come = has_come c.take_list-pairs.ensures c.origin_after.ensures c.reach_into.ensures.answered c.in_ok-reach_into.was c.in_ok-reach_into.ensures.found in
    let has : Contains items q = (come.found.reached.next q.0 q.1).1 next in
    true_not_false (sym (c.contains-comes_next.ensures.1 (subst (Contains items) (sym c.pair.view_is) has)) ∙ c.if-comes_next.false)

-- The pairs of what came next were counted, and the list was given back.
paired_kept : {lent old now kept : Searching} {s l : History} {f f' : Start} {result : Result Bool Over} {pairs : List (ℕ × ℕ)} {ends : Bool} → lent ≡ old → f' ≡ f → IsAnswered lent now s l reach f' result → result ≡ Ok ends → HasReached lent now s l f' pairs ends → kept ≡ now → CountsPairs old.game reach s.state f old.opened kept.opened old.taken kept.taken (Unit {0})
paired_kept {old = old} {s = s} {f = f} same start asked was found kept =
    subst (λ (x : Searching). CountsPairs old.game reach s.state f old.opened x.opened old.taken x.taken (Unit {0})) (sym kept) (come_paired reach (has_come same start asked was found))

pub returns-then-comes_next-clause-paired : goal.returns-then-comes_next-clause-paired
returns-then-comes_next-clause-paired g c =
    paired_kept c.take_list-pairs.ensures c.origin_after.ensures c.reach_into.ensures.answered c.in_ok-reach_into.was c.in_ok-reach_into.ensures.found c.keep_list.ensures

pub returns-else-comes_next-clause-paired : goal.returns-else-comes_next-clause-paired
returns-else-comes_next-clause-paired g c =
    paired_kept c.take_list-pairs.ensures c.origin_after.ensures c.reach_into.ensures.answered c.in_ok-reach_into.was c.in_ok-reach_into.ensures.found c.keep_list.ensures
