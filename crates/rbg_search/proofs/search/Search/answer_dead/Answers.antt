use Rattle.std.proofs.Common.{refl, subst, arith, Result, Bool}
use Rattle.rbg_rules.specs.Meaning.{inside, beginning, pattern}
use Rattle.rbg_search.specs.Closure.{at_vertex}
use Rattle.rbg_search.proofs.Common.{IsAsked, Over}
use Rattle.rbg_search.proofs.search.Search.answer_dead.Goals as goal

pub answer-requires-clause-few : goal.answer-requires-clause-few
answer-requires-clause-few g c = c.in-Some.ensures.taken.few

pub returns-in-Ok-clause-asked : goal.returns-in-Ok-clause-asked
returns-in-Ok-clause-asked g c =
    let s = c.args.state.now in
    let here = at_vertex s.state c.args.vertex in
    subst (λ (r : Result Bool Over). IsAsked c.args.self.now c.answer.new.self s s pattern here (beginning (inside c.args.position)) c.args.self.now.modifiers r) c.in-Ok.is
    (record {
      kept = c.answer.ensures.kept;
      given_back = refl;
      room = omega arith;
      counts = c.answer.ensures.counts here;
      taken = c.answer.ensures.taken here c.in-Some.ensures.taken;
    })

pub returns-in-Ok-clause-valid : goal.returns-in-Ok-clause-valid
returns-in-Ok-clause-valid g c = c.in-Ok.ensures.valid (at_vertex c.args.state.now.state c.args.vertex) c.in-Some.ensures.scanned

pub returns-in-Ok-clause-forced : goal.returns-in-Ok-clause-forced
returns-in-Ok-clause-forced g c = λ cut. c.in-Ok.ensures.forced (at_vertex c.args.state.now.state c.args.vertex) cut c.in-Some.ensures.scanned
