use Rattle.rbg_serving.proofs.InCallLemmas.{asked_once, either_with_one_more}
use Rattle.rbg_serving.proofs.call.Call.begin.Goals as goal

pub returns-clause-goes_on : goal.returns-clause-goes_on
returns-clause-goes_on g c = λ start rounds call.
    either_with_one_more _ _ _ c.pass.result c.now-at.result c.now-at.ensures call
    (c.pass.ensures.goes_on start call.moments rounds (asked_once c.now-at.result call.holds))
