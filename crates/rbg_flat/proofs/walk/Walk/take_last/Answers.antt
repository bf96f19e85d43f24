use Rattle.rbg_base.proofs.Common.{◌-◌, refl, arith, slice_get-get_or}
use Rattle.rbg_flat.proofs.walk.Walk.take_last.Goals as goal

pub returns-clause-takes : goal.returns-clause-takes
returns-clause-takes c =
    let some = c.if-self-eq0.false in
    record {
      rest = refl;
      less = omega (arith, some);
      last = slice_get-get_or c.args.self.now.todo (c.args.self.now.waiting - 1) c.index-self-self.result (omega (arith, some, c.requires.room, c.requires.todo));
    }
