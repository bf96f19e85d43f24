-- The lines of the opening, and then of how play can continue.
use Rattle.std.proofs.Common.{◌≡◌, ◌++◌, rules, flat_map}
use Rattle.rbg_operations.specs.Lines.{made_line}
use Rattle.rbg_operations.proofs.opened.opened_lines.Goals as goal

pub returns : goal.returns
returns c =
    let rest = c.in_ok-write_rest.ensures in
    let parts : c.write_rest.new.out.items ≡ flat_map made_line c.args.opened.now.play.made ++ rest.0 = search rules in
    record { rest = rest.0; goes_on = rest.1; parts = parts }
