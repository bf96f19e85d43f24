-- A part's definition is added after the earlier ones.
use Rattle.rbg_base.proofs.Common.{List, ◌∙◌, sym, ap, map, map-append}
use Rattle.rbg_macro.proofs.Common.{section_of, Definitions, SectionTokens, Macro}
use Rattle.rbg_macro.proofs.Defined.{defined_section, defined_macro}
use Rattle.rbg_macro.proofs.definition.define.Goals as goal

pub returns-in-Some-clause-ok : goal.returns-in-Some-clause-ok
returns-in-Some-clause-ok c = record {
  what = _;
  defines = defined_section _ _ _ _ _ _ c.in_ok-name.ensures c.in-Some.ensures c.in_ok-tokens.ensures;
  added =
      ap (λ (ss : List SectionTokens). let ds : Definitions = record { sections = ss; macros = c.args.definitions.now.macros } in ds)
      (ap (λ bodies. map section_of bodies) c.in_ok-push.ensures.items ∙ map-append section_of c.args.definitions.now.sections.items _);
}

pub returns-clause-ok : goal.returns-clause-ok
returns-clause-ok c = record {
  what = _;
  defines = defined_macro _ _ _ _ _ _ c.in_ok-template.template c.in_ok-name.ensures c.in_default.ensures (sym c.contains.ensures ∙ c.if-contains.false)
      c.in_ok-template.ensures.ok.beyond c.in_ok-template.ensures.ok.many c.in_ok-template.ensures.ok.filled;
  added =
      ap (λ (ms : List Macro). let ds : Definitions = record { sections = map section_of c.args.definitions.now.sections.items; macros = ms } in ds)
      c.in_ok-insert.ensures;
}
