use Rattle.std.proofs.Common.{◌≡◌, ℕ, suc, ◌+◌, ◌<◌, ap, ◌∙◌, subst, arith, refl, IsTrue, ◌↔◌, ◌≤◌, Result, sym}
use Rattle.rbg_search.proofs.Takings.{takes_none_yet, not_ok}
use Rattle.rbg_rules.specs.Meaning.{inside, Start, beginning, AbstractGame, AbstractState, Applies, pattern}
use Rattle.rbg_state.specs.History.{History}
use Rattle.rbg_search.proofs.Common.{Searching, IsAsked, Over, Deep, Wide, Memory, CountsForced}
use Rattle.rbg_search.proofs.Along.{at_vertex, NestsFrom}
use Rattle.rbg_search.proofs.Asking.{room_twice}
use Rattle.rbg_search.proofs.Countings.{none_counted}
use Rattle.rbg_search.proofs.Counted.{memory_not_deep, memory_not_wide}
use Rattle.rbg_search.proofs.CountedSteps.{not_memory}
use Rattle.rbg_search.proofs.Asks.{answered, handed_on, answered_on, asked_there}
use Rattle.rbg_search.proofs.search.Search.pattern.Goals as goal

same_below : (n k : ℕ) → n + 1 ≡ suc k → n ≡ k
same_below n k e = omega (arith, e)

-- Room was made for changes, and one stands at the vertex where one stood.
still_here : (s r : History) (v : ℕ) → v ≡ r.state.vertex → r ≡ record s { room = r.room } → s.state ≡ at_vertex r.state v
still_here s r v is kept = sym (ap (λ (u : ℕ). at_vertex r.state u) is ∙ ap (λ (h : History). h.state) kept)

asked_here : {X : Type 0} {h k : Searching} {s r l : History} {f : Start} {n v : ℕ} {result : Result X Over} → IsAsked h k r l pattern (at_vertex r.state v) f n result → s.state ≡ at_vertex r.state v → r ≡ record s { room = r.room } → s.room ≤ r.room → IsAsked h k s l pattern s.state f n result
asked_here {s = s} {r = r} {l = l} {n = n} is at kept more = asked_there is s l s.state n at refl (room_twice s r l kept is.given_back) (omega (arith, is.room, more))

pub ask_first-requires-clause-nested : goal.ask_first-requires-clause-nested
ask_first-requires-clause-nested g c = λ k is.
    let game : c.self.inside.rules ≡ c.args.self.now.game = ap (λ (x : Searching). x.game) c.self.view_is in
    let nests : NestsFrom c.args.self.now.game.rules c.nesting-nested.result (beginning (inside c.args.position)) =
    subst (λ (x : AbstractGame). NestsFrom x.rules c.nesting-nested.result (beginning (inside c.args.position))) game (c.nesting-nested.ensures.nests (beginning (inside c.args.position))) in
    subst (λ (n : ℕ). NestsFrom c.args.self.now.game.rules n (beginning (inside c.args.position))) (same_below c.nesting-nested.result k is) nests

pub returns-clause-valid : goal.returns-clause-valid
returns-clause-valid g c =
    let at = still_here c.args.state.now c.reserve.new.self c.vertex-vertex.result c.vertex-vertex.ensures c.reserve.ensures.kept in
    subst (λ (s : AbstractState). IsTrue c.in_ok-valid.valid ↔ Applies c.args.self.now.game c.args.position s s) (sym at) c.in_ok-valid.ensures.valid

pub returns-in_err-reserve-clause-answered : goal.returns-in_err-reserve-clause-answered
returns-in_err-reserve-clause-answered g c =
    let f = beginning (inside c.args.position) in
    let r = c.from_residual.result in
    let gives = c.from_residual.ensures.1 in
    record {
      kept = refl;
      given_back = c.reserve.ensures.kept;
      room = c.reserve.ensures.no_less;
      counted = none_counted c.args.self.now.game pattern c.args.state.now.state f c.args.self.now.opened c.args.self.now.opened refl;
      deep = λ d. absurd (not_memory r Memory Deep gives refl memory_not_deep d);
      wide = λ w. absurd (not_memory r Memory Wide gives refl memory_not_wide w);
      all_forced = λ ok. absurd (not_ok r Memory gives ok);
      not_deep = λ ok. absurd (not_ok r Memory gives ok);
      taken = takes_none_yet c.args.self.now.game pattern c.args.state.now.state f c.args.self.now.opened c.args.self.now.opened c.args.self.now.taken c.args.self.now.taken _ refl refl;
    }

pub returns-in_err-valid-clause-answered : goal.returns-in_err-valid-clause-answered
returns-in_err-valid-clause-answered g c =
    let some : 0 < c.args.self.now.modifiers = subst (λ (m : ℕ). 0 < m) (ap (λ (x : Searching). x.modifiers) c.self.view_is) c.self.invariant.3 in
    let at = still_here c.args.state.now c.reserve.new.self c.vertex-vertex.result c.vertex-vertex.ensures c.reserve.ensures.kept in
    let asked = asked_here c.ask_first.ensures.asked at c.reserve.ensures.kept c.reserve.ensures.no_less in
    answered some (handed_on asked c.from_residual-in_err-valid.result c.in_err-valid.field-0.0 c.in_err-valid.was c.from_residual-in_err-valid.ensures.1)
    (λ ok. absurd (not_ok c.from_residual-in_err-valid.result c.in_err-valid.field-0.0 c.from_residual-in_err-valid.ensures.1 ok))

pub returns-clause-answered : goal.returns-clause-answered
returns-clause-answered g c =
    let some : 0 < c.args.self.now.modifiers = subst (λ (m : ℕ). 0 < m) (ap (λ (x : Searching). x.modifiers) c.self.view_is) c.self.invariant.3 in
    let at = still_here c.args.state.now c.reserve.new.self c.vertex-vertex.result c.vertex-vertex.ensures c.reserve.ensures.kept in
    let asked = asked_here c.ask_first.ensures.asked at c.reserve.ensures.kept c.reserve.ensures.no_less in
    answered some (answered_on asked c.in_ok-valid.valid c.in_ok-valid.valid c.in_ok-valid.was)
    (λ _ cut. subst (λ (s : AbstractState). CountsForced c.args.self.now.game cut pattern s (beginning (inside c.args.position)) c.args.self.now.opened c.ask_first.new.self.opened c.args.self.now.modifiers c.args.self.now.modifiers) (sym at) (c.in_ok-valid.ensures.forced cut))
