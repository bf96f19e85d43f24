-- So far the tokens are the same.
use Rattle.std.proofs.Common.{◌≡◌, map, take}
use Rattle.rbg_lsp.specs.Formatting.{spelled_as}
use Rattle.rbg_lsp.proofs.layout.are_same.Given as goal

abbrev pub invariant-loop-index : goal.invariant-loop-index
invariant-loop-index l = map spelled_as (take l.index l.old) ≡ map spelled_as (take l.index l.new)
