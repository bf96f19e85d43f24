-- The parts are those before and after the board.
use Rattle.std.proofs.Common.{◌≤◌, arith, length, refl}
use Rattle.std.proofs.lemmas.List.{take_rest}
use Rattle.rbg_import.proofs.Changing.{changed_by}
use Rattle.rbg_import.proofs.whole_text.changed.Goals as goal

pub returns : goal.returns
returns c =
    let in_order : c.min-start.result ≤ c.min-end.result = omega arith in
    let within : c.min-end.result ≤ length c.args.text.now = omega arith in
    changed_by c.joined.result c.args.text.now c.min-start.result c.min-end.result _ _ _ _ _ _ _ _ _ in_order within refl
    (take_rest c.args.text.now c.min-end.result) c.in_ok-before.ensures c.requires c.in_ok-after.ensures
    c.deref.ensures.value c.deref-3.ensures.value c.deref-4.ensures.value c.joined.ensures
