-- What was looked at before has no zero byte.
use Rattle.rbg_base.proofs.Common.{refl, arith, take_rest}
use Rattle.rbg_wire.proofs.CursorLemmas.{looked_none, looked_end, cursor_at_all, cursor_at_end}
use Rattle.rbg_wire.proofs.cursor.Cursor.look.Goals as goal

pub returns-in-None-clause-cursor : goal.returns-in-None-clause-cursor
returns-in-None-clause-cursor c =
    let lacks = rw take_rest at c.in-None.ensures.none in
    cursor_at_all _ _ _ (omega arith) (looked_none _ _ c.requires lacks)

pub returns-in-None-clause-none : goal.returns-in-None-clause-none
returns-in-None-clause-none c =
    let lacks = rw take_rest at c.in-None.ensures.none in
    (refl, looked_none _ _ c.requires lacks)

pub returns-in-Some-clause-cursor : goal.returns-in-Some-clause-cursor
returns-in-Some-clause-cursor c =
    let place = rw take_rest at c.in-Some.ensures.found in
    cursor_at_end _ _ _ _ (looked_end _ _ _ c.requires place)

pub returns-in-Some-clause-found : goal.returns-in-Some-clause-found
returns-in-Some-clause-found c =
    let place = rw take_rest at c.in-Some.ensures.found in
    (refl, looked_end _ _ _ c.requires place)
