use Rattle.std.proofs.Common.{rules, ◌≡◌}
use Rattle.rbg_match.specs.Inputs.{counted_first}
use Rattle.rbg_match.proofs.Histories.{opened_with}
use Rattle.rbg_match.proofs.WholeMatch.{seats_of_opened}
use Rattle.rbg_match.proofs.matches.Match.new.Goals as goal

pub returns-clause-seats : goal.returns-clause-seats
returns-clause-seats c =
    let at : c.min.result ≡ counted_first c.args.now = search rules in
    seats_of_opened c.args.game c.args.text.now c.args.config c.args.now c.in_ok-open.field-0.0 c.in_ok-open.field-0.1 (c.in_ok-open.ensures c.args.now at)

pub returns-clause-history : goal.returns-clause-history
returns-clause-history c =
    let at : c.min.result ≡ counted_first c.args.now = search rules in
    opened_with c.args.game c.args.text.now c.args.config c.args.now c.in_ok-open.field-0.0 c.in_ok-open.field-0.1 (c.in_ok-open.ensures c.args.now at)
