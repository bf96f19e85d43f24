-- The lines so far spell the events so far, and the next line spells one more or none.
use Rattle.rbg_base.proofs.Common.{rules, ◌≡◌, ◌∙◌, sym, true, false, length, length-map, nil_from_length}
use Rattle.std.proofs.lemmas.Bool.{eqb-true}
use Rattle.rbg_script.specs.declared.error.ScriptError.TheVariants.{Memory as OutOfMemory}
use Rattle.rbg_script.specs.Events.{owned_event_of}
use Rattle.rbg_script.specs.internal.Reading.{out_of_memory}
use Rattle.rbg_base.proofs.Errors.{passed_on}
use Rattle.rbg_script.proofs.ScriptLemmas.{all_read, not_empty, read_more, stopped}
use Rattle.rbg_script.proofs.script.read_events.Goals as goal

pub returns-in_err-take_line-clause-line : goal.returns-in_err-take_line-clause-line
returns-in_err-take_line-clause-line c = passed_on c.from_residual.result OutOfMemory _ c.from_residual.ensures.1 out_of_memory

pub returns-then-not-branch-clause-line : goal.returns-then-not-branch-clause-line
returns-then-not-branch-clause-line c =
    let some : c.is_empty.result ≡ false = search rules in
    let none : c.in_ok-take_line.field-0 ≡ false = search rules in
    let count : c.len.result ≡ length c.take_line.new.events.items = search rules in
    stopped _ _ _ _ _ _ _ _ c.loop-left.invariant c.first_line.ensures (not_empty _ _ c.is_empty.ensures some) c.in_ok-take_line.ensures none
    (length-map c.take_line.new.events.items owned_event_of ∙ sym count)

pub loop-left-preserved : goal.loop-left-preserved
loop-left-preserved c =
    let some : c.is_empty.result ≡ false = search rules in
    let one : c.in_ok-take_line.field-0 ≡ true = search rules in
    read_more _ _ _ _ _ _ _ c.loop-left.invariant c.first_line.ensures (not_empty _ _ c.is_empty.ensures some) c.in_ok-take_line.ensures one

pub returns-clause-found : goal.returns-clause-found
returns-clause-found c =
    let none : c.is_empty.result ≡ true = search rules in
    all_read _ _ _ c.loop-left.invariant (nil_from_length _ (eqb-true _ 0 (sym c.is_empty.ensures ∙ none)))
