-- If what is left has no line, or one that isn't of the form.
use Rattle.std.proofs.Common.{refl, sym, ◌∙◌}
use Rattle.std.proofs.lemmas.Bool.{true≢false}
use Rattle.rbg_record.proofs.Stopping.{ends_early, not_empty, not_formed}
use Rattle.rbg_record.proofs.reader.RecordReader.read.Goals as goal
use Rattle.rbg_record.proofs.reader.RecordReader.read.Goals.{else-is_nothing-via-then-is_nothing+else-is_empty, else-is_nothing-via-else-is_nothing}

pub returns-in_default-clause-fault : goal.returns-in_default-clause-fault
returns-in_default-clause-fault c =
    rw (← c.self.view_is) (record {
      number = refl;
      stops =
          ends_early _ _ c.self.inside.rest.now c.in_default.ensures.none
          (elim c.else-is_nothing.branch [
            | else-is_nothing-via-then-is_nothing+else-is_empty w ↦ (λ over none. not_empty c.self.inside.rest.now w.is_empty.result w.is_empty.ensures w.if-is_empty.false none)
            | else-is_nothing-via-else-is_nothing w ↦ (λ over none. true≢false (sym (c.is_nothing.ensures.1 over) ∙ w.if-is_nothing.false))
          ]);
    })

pub returns-in_default-content_of-clause-fault : goal.returns-in_default-content_of-clause-fault
returns-in_default-content_of-clause-fault c =
    rw (← c.self.view_is) (record {
      number = refl;
      stops =
          not_formed _ _ c.self.inside.rest.now c.in-Some.text.now c.in-Some.later.now c.in-Some.ensures.found c.in_default-content_of.ensures.none;
    })
