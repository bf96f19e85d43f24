-- The sections are those of the definitions, and their tokens are spelt.
use Rattle.rbg_macro.specs.internal.Defines.{defines_of}
use Rattle.rbg_macro.proofs.SpeltExpansions.{sections_placed}
use Rattle.rbg_macro.proofs.expansion.expand.Goals as goal

pub new-requires-2 : goal.new-requires-2
new-requires-2 c =
    sections_placed c.args.tokens.now c.in_ok-kept.kept c.in_ok-kept.sections.items c.as_slice.ensures.spelt
    (record {
      definitions = defines_of c.in_ok-definitions.definitions;
      defined = rw c.as_slice.ensures.tokens at c.in_ok-definitions.ensures;
      expanded = rw c.in_ok-macros.ensures at (rw c.deref.ensures.value at c.in_ok-kept.ensures.ok);
    })
    c.in_ok-kept.ensures.within

pub returns-clause-sections : goal.returns-clause-sections
returns-clause-sections c =
    rw c.new-2.ensures (record {
      definitions = defines_of c.in_ok-definitions.definitions;
      defined = rw c.as_slice.ensures.tokens at c.in_ok-definitions.ensures;
      expanded = rw c.in_ok-macros.ensures at (rw c.deref.ensures.value at c.in_ok-kept.ensures.ok);
    })
