use Rattle.std.proofs.Common.{◌≡◌, ℕ, List, [], ◌∷◌, ◌++◌, ap, ◌∙◌, sym, subst}
use Rattle.rbg_search.specs.Start.{start_of}
use Rattle.rbg_state.specs.History.{History}
use Rattle.rbg_search.specs.Answered.{HasReached}
use Rattle.rbg_search.proofs.Asks.{answer_handed, answer_on, answer_lost}
use Rattle.rbg_search.proofs.search.Search.reach_into.Goals as goal

pub returns-in_err-ends-clause-answered : goal.returns-in_err-ends-clause-answered
returns-in_err-ends-clause-answered g c = answer_handed c.reach_only.ensures.answered c.from_residual.result c.in_err-ends.field-0.0 c.in_err-ends.was c.from_residual.ensures.1

pub returns-in_err-push-clause-answered : goal.returns-in_err-push-clause-answered
returns-in_err-push-clause-answered g c = answer_lost c.reach_only.ensures.answered c.in_ok-ends.ends c.in_ok-ends.was c.from_residual-in_err-push.result c.from_residual-in_err-push.ensures.1

pub returns-in-Some-clause-answered : goal.returns-in-Some-clause-answered
returns-in-Some-clause-answered g c = answer_on c.reach_only.ensures.answered c.in_ok-ends.ends c.in_ok-ends.was

pub returns-in-Some-clause-found : goal.returns-in-Some-clause-found
returns-in-Some-clause-found g c =
    let here : c.vertex.result ≡ c.args.state.now.state.vertex = c.vertex.ensures ∙ ap (λ (h : History). h.state.vertex) c.reach_only.ensures.answered.given_back in
    let items : c.push.new.self ≡ (c.args.state.now.state.vertex, c.in-Some.position) ∷ [] =
    c.in_ok-push.ensures ∙ ap (λ (xs : List (ℕ × ℕ)). xs ++ (c.vertex.result, c.in-Some.position) ∷ []) c.clear.ensures ∙ ap (λ (v : ℕ). (v, c.in-Some.position) ∷ []) here in
    subst (λ (xs : List (ℕ × ℕ)). HasReached c.args.self.now c.reach_only.new.self c.args.state.now c.reach_only.new.state (start_of c.args.origin) xs c.in_ok-ends.ends) (sym items) c.in_ok-ends.ensures.found
