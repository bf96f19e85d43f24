-- What the branches so far lead to was gathered.
use Rattle.std.proofs.Common.{◌<◌, ℕ, get_or, IsTrue}
use Rattle.rbg_shifts.proofs.Common.{list_at, may_end_at, EndsBy, Grows, IsGathered, IsSoundTable, RecordsStepFrom}
use Rattle.rbg_shifts.proofs.gathering.gather.Given as goal

abbrev pub invariant-loop-branch : goal.invariant-loop-branch
invariant-loop-branch l = record {
  sound : IsSoundTable l.setting.ground.now l.setting.lists.now l.table;
  grows : Grows l.start l.fn.table l.table;
  gathered : IsGathered l.setting.ground.now l.setting.lists.now l.table l.start l.spot.node l.spot.vertex;
  ends_told : IsTrue (may_end_at l.setting.lists.now.interner l.spot.node) → IsTrue l.ends;
  told : (i : ℕ) → i < l.branch-index → RecordsStepFrom l.setting.ground.now l.setting.lists.now l.table l.start l.ends l.spot.vertex (get_or (list_at l.setting.lists.now.interner l.spot.node) i 0);
  ends : IsTrue l.ends → EndsBy l.setting.ground.now (list_at l.setting.lists.now.interner l.spot.node) (may_end_at l.setting.lists.now.interner l.spot.node) l.spot.vertex;
}
