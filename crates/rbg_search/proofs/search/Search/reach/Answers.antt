use Rattle.std.proofs.Common.{◌≢◌, ℕ, List, sym, subst, AllPairs}
use Rattle.rbg_rules.specs.Meaning.{reach}
use Rattle.rbg_search.proofs.Common.{Searching, IsAnswered, HasReached}
use Rattle.rbg_search.specs.Start.{start_of}
use Rattle.rbg_search.proofs.Orders.{flat_permuted, within_permuted}
use Rattle.rbg_search.proofs.Asks.{answer_handed, answer_on, answer_lost, answer_same}
use Rattle.rbg_search.proofs.search.Search.reach.Goals as goal

pub sort-requires : goal.sort-requires
sort-requires g c =
    subst (λ (ps : List (ℕ × ℕ)). AllPairs (λ a b. a ≢ b) ps) (sym c.in_ok-write_to.ensures) c.in_ok-ends.ensures.found.reached.different

pub returns-clause-found : goal.returns-clause-found
returns-clause-found g c =
    let game = c.args.self.now.game in
    let s = c.args.state.now in
    let l = c.reach_into.new.state in
    let f = start_of c.args.origin in
    let ends = c.in_ok-ends.ends in
    let there : HasReached c.args.self.now c.reach_into.new.self s l f c.reach_into.new.pairs ends =
    subst (λ (x : Searching). HasReached x c.reach_into.new.self s l f c.reach_into.new.pairs ends) c.take_list-found.ensures c.in_ok-ends.ensures.found in
    let here : HasReached c.args.self.now c.keep_list.new.self s l f c.write_to.new.pairs.items ends =
    subst (λ (x : Searching). HasReached c.args.self.now x s l f c.write_to.new.pairs.items ends) (sym c.keep_list.ensures) (subst (λ (ps : List (ℕ × ℕ)). HasReached c.args.self.now c.reach_into.new.self s l f ps ends) (sym c.in_ok-write_to.ensures) there) in
    record {
      enough = here.enough;
      reached = flat_permuted game s.state f c.write_to.new.pairs.items c.sort.new.pairs.items ends c.sort.ensures.permutation here.reached;
      within = within_permuted game c.write_to.new.pairs.items c.sort.new.pairs.items c.sort.ensures.permutation here.within;
      forced = here.forced;
    }

pub returns-in_err-ends-clause-answered : goal.returns-in_err-ends-clause-answered
returns-in_err-ends-clause-answered g c =
    let here : IsAnswered c.args.self.now c.reach_into.new.self c.args.state.now c.reach_into.new.state reach (start_of c.args.origin) c.reach_into.result =
    subst (λ (x : Searching). IsAnswered x c.reach_into.new.self c.args.state.now c.reach_into.new.state reach (start_of c.args.origin) c.reach_into.result) c.take_list-found.ensures c.reach_into.ensures.answered in
    answer_handed here c.from_residual.result c.in_err-ends.field-0.0 c.in_err-ends.was c.from_residual.ensures.1

pub returns-in_err-write_to-clause-answered : goal.returns-in_err-write_to-clause-answered
returns-in_err-write_to-clause-answered g c =
    let here : IsAnswered c.args.self.now c.reach_into.new.self c.args.state.now c.reach_into.new.state reach (start_of c.args.origin) c.reach_into.result =
    subst (λ (x : Searching). IsAnswered x c.reach_into.new.self c.args.state.now c.reach_into.new.state reach (start_of c.args.origin) c.reach_into.result) c.take_list-found.ensures c.reach_into.ensures.answered in
    answer_lost here c.in_ok-ends.ends c.in_ok-ends.was c.from_residual-in_err-write_to.result c.from_residual-in_err-write_to.ensures.1

pub returns-clause-answered : goal.returns-clause-answered
returns-clause-answered g c =
    let here : IsAnswered c.args.self.now c.reach_into.new.self c.args.state.now c.reach_into.new.state reach (start_of c.args.origin) c.reach_into.result =
    subst (λ (x : Searching). IsAnswered x c.reach_into.new.self c.args.state.now c.reach_into.new.state reach (start_of c.args.origin) c.reach_into.result) c.take_list-found.ensures c.reach_into.ensures.answered in
    answer_same (answer_on here c.in_ok-ends.ends c.in_ok-ends.was) c.keep_list.new.self c.keep_list.ensures
