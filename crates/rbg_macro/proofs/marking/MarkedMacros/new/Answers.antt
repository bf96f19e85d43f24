-- One more macro has its template.
use Rattle.std.proofs.Common.{◌∙◌}
use Rattle.rbg_macro.proofs.Marks.{marked_more}
use Rattle.rbg_macro.proofs.marking.MarkedMacros.new.Goals as goal

pub loop-template-preserved : goal.loop-template-preserved
loop-template-preserved c =
    let size = c.len.ensures ∙ c.loop-template.templates.ok.0 in
    marked_more c.args.macros c.loop-template.templates.items c.push.new.self.items c.in-Some.template.now c.in_ok-marked.marked c.loop-template.invariant
    (rw size at c.in-Some.ensures) c.in_ok-marked.ensures.parameters c.in_ok-marked.ensures.body c.in_ok-marked.ensures.marked c.in_ok-push.ensures.items
