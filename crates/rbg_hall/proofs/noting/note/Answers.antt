-- What is written is what the match is handed.
use Rattle.std.proofs.Common.{ℕ, Option, ap, sym, subst, OnErr, OnOk}
use Rattle.rbg_wire.specs.Inboxes.{item_of}
use Rattle.rbg_hall.proofs.TableCommon.{input_of, line_in, clock, joins, arrives, says, leaves}
use Rattle.rbg_hall.proofs.Sitting.{seat_nowhere, seat_there}
use Rattle.rbg_hall.specs.declared.input.TableInput.{TableInput}
use Rattle.rbg_hall.specs.TableLaws as laws
use Rattle.rbg_hall.specs.LogLedgers.{IsNotedIn}
use Rattle.rbg_hall.specs.internal.LogParts.{IsNotedPart}
use Rattle.rbg_hall.proofs.Keeping.{handed_in, handed_part, nothing_in}
use Rattle.rbg_hall.proofs.noting.note.Goals as goal

-- the line of an input
abbrev from : TableInput → Option ℕ
from input = line_in (input_of input)

pub returns-in-Clock-clause-ok : goal.returns-in-Clock-clause-ok
returns-in-Clock-clause-ok g c =
    subst (λ input. OnOk c.write_for.result (IsNotedIn g.W.Log.told c.args.log.now c.write_for.new.log c.args.table.now (input_of input))) (sym c.in-Clock.is)
    (handed_in g.W.Log.told c.args.log.now c.write_for.new.log c.args.table.now (clock c.in-Clock.at) _ c.write_for.result (laws.ticks) c.write_for.ensures.ok)

pub returns-in-Clock-clause-part : goal.returns-in-Clock-clause-part
returns-in-Clock-clause-part g c =
    subst (λ input. OnErr c.write_for.result (IsNotedPart g.W.Log.told c.args.log.now c.write_for.new.log c.args.table.now (input_of input))) (sym c.in-Clock.is)
    (handed_part g.W.Log.told c.args.log.now c.write_for.new.log c.args.table.now (clock c.in-Clock.at) _ c.write_for.result (laws.ticks) c.write_for.ensures.part)

pub returns-in-Joins-clause-ok : goal.returns-in-Joins-clause-ok
returns-in-Joins-clause-ok g c =
    subst (λ input. IsNotedIn g.W.Log.told c.args.log.now c.args.log.now c.args.table.now (input_of input)) (sym c.in-Joins.is)
    (nothing_in g.W.Log.told c.args.log.now c.args.table.now (joins c.in-Joins.line c.in-Joins.at) (laws.late))

pub returns-in-Some-clause-ok : goal.returns-in-Some-clause-ok
returns-in-Some-clause-ok g c =
    subst (λ input. OnOk c.write_for-in-Some.result (IsNotedIn g.W.Log.told c.args.log.now c.write_for-in-Some.new.log c.args.table.now (input_of input))) (sym c.in-Arrives.is)
    (handed_in g.W.Log.told c.args.log.now c.write_for-in-Some.new.log c.args.table.now (arrives c.in-Arrives.line c.in-Arrives.at) _ c.write_for-in-Some.result (laws.stirs c.in-Some.field-0 (seat_there c.args.table.now c.in-Arrives.line c.in-Some.field-0 c.requires (ap from c.in-Arrives.is) c.in-Some.is).0) c.write_for-in-Some.ensures.ok)

pub returns-in-Some-clause-part : goal.returns-in-Some-clause-part
returns-in-Some-clause-part g c =
    subst (λ input. OnErr c.write_for-in-Some.result (IsNotedPart g.W.Log.told c.args.log.now c.write_for-in-Some.new.log c.args.table.now (input_of input))) (sym c.in-Arrives.is)
    (handed_part g.W.Log.told c.args.log.now c.write_for-in-Some.new.log c.args.table.now (arrives c.in-Arrives.line c.in-Arrives.at) _ c.write_for-in-Some.result (laws.stirs c.in-Some.field-0 (seat_there c.args.table.now c.in-Arrives.line c.in-Some.field-0 c.requires (ap from c.in-Arrives.is) c.in-Some.is).0) c.write_for-in-Some.ensures.part)

pub returns-in-None-clause-ok : goal.returns-in-None-clause-ok
returns-in-None-clause-ok g c =
    subst (λ input. IsNotedIn g.W.Log.told c.args.log.now c.args.log.now c.args.table.now (input_of input)) (sym c.in-Arrives.is)
    (nothing_in g.W.Log.told c.args.log.now c.args.table.now (arrives c.in-Arrives.line c.in-Arrives.at) (laws.stirs_not (seat_nowhere c.args.table.now c.in-Arrives.line c.requires (ap from c.in-Arrives.is) c.in-None.is)))

pub returns-in-Some-seat-clause-ok : goal.returns-in-Some-seat-clause-ok
returns-in-Some-seat-clause-ok g c =
    subst (λ input. OnOk c.write_for-in-Some-seat.result (IsNotedIn g.W.Log.told c.args.log.now c.write_for-in-Some-seat.new.log c.args.table.now (input_of input))) (sym c.in-Says.is)
    (handed_in g.W.Log.told c.args.log.now c.write_for-in-Some-seat.new.log c.args.table.now (says c.in-Says.line c.in-Says.at (item_of c.in-Says.took)) _ c.write_for-in-Some-seat.result (laws.plays c.in-Some-seat.index (seat_there c.args.table.now c.in-Says.line c.in-Some-seat.index c.requires (ap from c.in-Says.is) c.in-Some-seat.is).0) c.write_for-in-Some-seat.ensures.ok)

pub returns-in-Some-seat-clause-part : goal.returns-in-Some-seat-clause-part
returns-in-Some-seat-clause-part g c =
    subst (λ input. OnErr c.write_for-in-Some-seat.result (IsNotedPart g.W.Log.told c.args.log.now c.write_for-in-Some-seat.new.log c.args.table.now (input_of input))) (sym c.in-Says.is)
    (handed_part g.W.Log.told c.args.log.now c.write_for-in-Some-seat.new.log c.args.table.now (says c.in-Says.line c.in-Says.at (item_of c.in-Says.took)) _ c.write_for-in-Some-seat.result (laws.plays c.in-Some-seat.index (seat_there c.args.table.now c.in-Says.line c.in-Some-seat.index c.requires (ap from c.in-Says.is) c.in-Some-seat.is).0) c.write_for-in-Some-seat.ensures.part)

pub returns-in-None-seat-clause-ok : goal.returns-in-None-seat-clause-ok
returns-in-None-seat-clause-ok g c =
    subst (λ input. IsNotedIn g.W.Log.told c.args.log.now c.args.log.now c.args.table.now (input_of input)) (sym c.in-Says.is)
    (nothing_in g.W.Log.told c.args.log.now c.args.table.now (says c.in-Says.line c.in-Says.at (item_of c.in-Says.took)) (laws.says_not (seat_nowhere c.args.table.now c.in-Says.line c.requires (ap from c.in-Says.is) c.in-None-seat.is)))

pub returns-in-Some-seat-2-clause-ok : goal.returns-in-Some-seat-2-clause-ok
returns-in-Some-seat-2-clause-ok g c =
    subst (λ input. OnOk c.write_for-in-Some-seat-2.result (IsNotedIn g.W.Log.told c.args.log.now c.write_for-in-Some-seat-2.new.log c.args.table.now (input_of input))) (sym c.in-Leaves.is)
    (handed_in g.W.Log.told c.args.log.now c.write_for-in-Some-seat-2.new.log c.args.table.now (leaves c.in-Leaves.line c.in-Leaves.at) _ c.write_for-in-Some-seat-2.result (laws.goes c.in-Some-seat-2.index (seat_there c.args.table.now c.in-Leaves.line c.in-Some-seat-2.index c.requires (ap from c.in-Leaves.is) c.in-Some-seat-2.is).0) c.write_for-in-Some-seat-2.ensures.ok)

pub returns-in-Some-seat-2-clause-part : goal.returns-in-Some-seat-2-clause-part
returns-in-Some-seat-2-clause-part g c =
    subst (λ input. OnErr c.write_for-in-Some-seat-2.result (IsNotedPart g.W.Log.told c.args.log.now c.write_for-in-Some-seat-2.new.log c.args.table.now (input_of input))) (sym c.in-Leaves.is)
    (handed_part g.W.Log.told c.args.log.now c.write_for-in-Some-seat-2.new.log c.args.table.now (leaves c.in-Leaves.line c.in-Leaves.at) _ c.write_for-in-Some-seat-2.result (laws.goes c.in-Some-seat-2.index (seat_there c.args.table.now c.in-Leaves.line c.in-Some-seat-2.index c.requires (ap from c.in-Leaves.is) c.in-Some-seat-2.is).0) c.write_for-in-Some-seat-2.ensures.part)

pub returns-in-None-seat-2-clause-ok : goal.returns-in-None-seat-2-clause-ok
returns-in-None-seat-2-clause-ok g c =
    subst (λ input. IsNotedIn g.W.Log.told c.args.log.now c.args.log.now c.args.table.now (input_of input)) (sym c.in-Leaves.is)
    (nothing_in g.W.Log.told c.args.log.now c.args.table.now (leaves c.in-Leaves.line c.in-Leaves.at) (laws.goes_not (seat_nowhere c.args.table.now c.in-Leaves.line c.requires (ap from c.in-Leaves.is) c.in-None-seat-2.is)))
