use Rattle.std.proofs.Common.{◌%◌, refl, arith}
use Rattle.rbg_shifts.proofs.Targets.{unit_set, unit_only, same_vertex}
use Rattle.rbg_shifts.proofs.adding.unit.Goals as goal

pub returns-clause-has : goal.returns-clause-has
returns-clause-has c = record { position = refl; column = refl; set = unit_set (c.args.vertex % 64) (omega arith) }

pub returns-clause-vertex : goal.returns-clause-vertex
returns-clause-vertex c = λ p u is. same_vertex u c.args.vertex is.column (unit_only (c.args.vertex % 64) (u % 64) (omega arith) is.set)
