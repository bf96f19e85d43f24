-- A mark is the number of a template.
use Rattle.std.proofs.Common.{arith}
use Rattle.rbg_macro.specs.internal.ReadTokens.{read_lexeme}
use Rattle.rbg_macro.proofs.Marks.{number_within, named_at, marked_at}
use Rattle.rbg_macro.proofs.marking.MarkedMacros.get.Goals as goal

pub index-requires : goal.index-requires
index-requires c =
    let marked = rw c.in-Some.is at c.requires.mark in
    let is = rw (← c.self.view_is) at marked in
    omega (arith, number_within c.self.inside.macros c.self.inside.templates.items (read_lexeme c.args.token.now) c.in-Some.number c.self.invariant is, c.self.inside.templates.ok.0)

pub returns-in-Some-clause-named : goal.returns-in-Some-clause-named
returns-in-Some-clause-named c =
    let marked = rw c.in-Some.is at c.requires.mark in
    let is = rw (← c.self.view_is) at marked in
    rw (← c.self.view_is) (named_at c.self.inside.macros c.self.inside.templates.items (read_lexeme c.args.token.now) c.in-Some.number c.index.result.now c.self.invariant is c.index.ensures)

pub returns-in-Some-clause-marked : goal.returns-in-Some-clause-marked
returns-in-Some-clause-marked c =
    let marked = rw c.in-Some.is at c.requires.mark in
    let is = rw (← c.self.view_is) at marked in
    rw (← c.self.view_is) (marked_at c.self.inside.macros c.self.inside.templates.items (read_lexeme c.args.token.now) c.in-Some.number c.index.result.now c.self.invariant is c.index.ensures)
