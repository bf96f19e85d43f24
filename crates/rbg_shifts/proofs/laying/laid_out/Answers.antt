use Rattle.std.proofs.Common.{ℕ, List, refl, subst, arith}
use Rattle.rbg_shifts.proofs.Common.{Entry, AreLaid}
use Rattle.rbg_shifts.proofs.Layings.{after_rows, inside_rows, first_row, are_leaps}
use Rattle.rbg_shifts.proofs.laying.laid_out.Goals as goal

pub lay-requires : goal.lay-requires
lay-requires c = rw (c.deref.ensures.value, c.deref-2.ensures.value) (after_rows c.args.ground.now c.args.lists c.args.table c.requires.lists c.requires.filled)

pub invariant_of-result : goal.invariant_of-result
invariant_of-result c = record {
  few = let size = c.requires.filled.sound.laid_out.vertices in let limit = c.requires.lawful.limits.vertices in omega (arith, size, limit);
  within = c.in_ok-afters.ensures.within _ (rw c.deref.ensures.value c.args.table.within);
  begins = c.args.table.within;
  first = first_row c.args.ground.now c.args.lists c.args.table c.requires.lists c.requires.filled;
  nodes = inside_rows c.args.ground.now c.args.lists c.args.table c.requires.lists c.requires.filled;
}

pub returns : goal.returns
returns c =
    are_leaps c.args.ground.now c.requires.lawful.numbered c.args.lists c.requires.lists c.args.table c.requires.filled _ refl refl refl refl refl
    (subst (λ (es : List Entry). AreLaid c.args.table.vertices es c.args.lists.afters.items c.in_ok-afters.afters.items) c.deref.ensures.value
    (subst (λ (ns : List ℕ). AreLaid c.args.table.vertices c.deref.result.now ns c.in_ok-afters.afters.items) c.deref-2.ensures.value c.in_ok-afters.ensures))
