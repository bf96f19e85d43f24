use Rattle.std.proofs.Common.{rules, ◌≡◌, ◌<◌, take, drop, sym, arith}
use Rattle.std.proofs.lemmas.List.{take_all}
use Rattle.rbg_grammar.specs.Sections.{count_of}
use Rattle.rbg_syntax.proofs.SectionLists.{split_at, one_more_different}
use Rattle.rbg_syntax.proofs.sections.refuse_twice.Goals as goal

pub returns-then-stands_before-clause-twice : goal.returns-then-stands_before-clause-twice
returns-then-stands_before-clause-twice c =
    let sections = c.args.source.now in
    let i = c.loop-index.index in
    record {
      before = take i sections;
      again = c.section.result;
      beyond = drop 1 (drop i sections);
      whole = split_at sections i c.section.result c.section.ensures;
      different = c.loop-index.invariant;
      same = sym c.kind-which.ensures;
      twice = search rules;
    }

pub loop-index-preserved : goal.loop-index-preserved
loop-index-preserved c =
    let s = c.section.result in
    let sections = c.args.source.now in
    let not_before : 0 < count_of c.kind-which.result (take c.loop-index.index sections) → ⊥ = λ before. let wrong = c.if-stands_before.ensures.1 before in cc in
    let none : count_of c.kind-which.result (take c.loop-index.index sections) ≡ 0 = omega (arith, not_before) in
    one_more_different sections c.loop-index.index s c.section.ensures c.loop-index.invariant (rw c.kind-which.ensures at none)

pub returns-clause-once : goal.returns-clause-once
returns-clause-once c = let whole = take_all c.loop-index.index c.args.source.now (omega arith) in rw whole at c.loop-index.invariant
