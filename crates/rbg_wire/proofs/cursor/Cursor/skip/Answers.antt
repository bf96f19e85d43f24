-- What is dropped completes nothing.
use Rattle.std.proofs.Common.{◌≤◌, length, arith}
use Rattle.rbg_wire.proofs.CursorLemmas.{skipped_all, skipped_end}
use Rattle.rbg_wire.proofs.cursor.Cursor.skip.Goals as goal

pub returns-in-None-clause-same : goal.returns-in-None-clause-same
returns-in-None-clause-same c limit =
    let lacks = rw c.look.ensures.start at c.in-None.ensures.none.1 in
    let past : length c.args.bytes.now ≤ c.look.new.self.looked = omega (arith, c.in-None.ensures.none.0) in
    rw (c.look.ensures.dropping, c.requires.dropping) (skipped_all limit _ _ _ lacks past)

pub returns-in-Some-clause-same : goal.returns-in-Some-clause-same
returns-in-Some-clause-same c limit =
    let end = rw c.look.ensures.start at c.in-Some.ensures.found.1 in
    rw c.requires.dropping (skipped_end limit _ _ _ end)
