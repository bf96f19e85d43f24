-- The entry with this index has the template.
use Rattle.std.proofs.Common.{sym}
use Rattle.rbg_macro.proofs.Marks.{template_by_index}
use Rattle.rbg_macro.proofs.macros.Macros.template.Goals as goal

pub returns-in-Some : goal.returns-in-Some
returns-in-Some c = record {
  name = c.in-Some.field-0-0.now.now;
  stands = rw (← c.self.view_is) (template_by_index c.self.inside.by_name.entries c.args.number (c.in-Some.field-0-0.now, c.in-Some.template.now) (sym c.in-Some.ensures.entry));
}
