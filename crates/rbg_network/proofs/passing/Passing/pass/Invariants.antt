-- What is passed on of the bytes so far stands before the other bytes.
use Rattle.std.proofs.Common.{◌≡◌, ◌≤◌, length, take, drop, ◌++◌}
use Rattle.rbg_network.specs.Passing.{passed, begun_after}
use Rattle.rbg_network.proofs.passing.Passing.pass.Given as goal

abbrev pub invariant-loop-index : goal.invariant-loop-index
invariant-loop-index l = record {
  kept : l.kept ≡ length (passed l.initial.self.begun (take l.index l.initial.buffer));
  after : l.kept ≤ l.index;
  buffer : l.buffer ≡ passed l.initial.self.begun (take l.index l.initial.buffer) ++ drop l.kept l.initial.buffer;
  begun : l.self.begun ≡ begun_after l.initial.self.begun (take l.index l.initial.buffer);
}
