-- What is cut after the tokens so far follows what was found.
use Rattle.std.proofs.Common.{List, length, drop, map, ◌-◌, ◌++◌}
use Rattle.rbg_macro.specs.declared.token.Token.{Token}
use Rattle.rbg_warnings.specs.Actions.{AreCut}
use Rattle.rbg_warnings.proofs.rule_actions.actions.Given as goal

abbrev pub invariant-loop-at : goal.invariant-loop-at
invariant-loop-at l =
    (more : List (List Token)) → AreCut (drop l.at l.rules) more → AreCut l.rules (map (λ tokens. tokens.now) l.found.items ++ more)

abbrev pub decreases-loop-at : goal.decreases-loop-at
decreases-loop-at l = length l.rules - l.at
