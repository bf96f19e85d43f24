-- An action that is no pattern is one of the rules.
use Rattle.std.proofs.Common.{◌∙◌, sym}
use Rattle.std.proofs.lemmas.Bool.{not-true}
use Rattle.rbg_position.proofs.RestFound.{act_here}
use Rattle.rbg_position.proofs.rest.is_act.Goals as goal

pub returns-in-Some : goal.returns-in-Some
returns-in-Some c = λ plain.
    act_here c.args.position _ c.in-Some.action.now c.in-Some.ensures.found (sym c.is_pattern.ensures ∙ not-true c.is_pattern.result plain)
