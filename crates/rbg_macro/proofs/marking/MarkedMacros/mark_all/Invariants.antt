-- The tokens so far are marked.
use Rattle.std.proofs.Common.{◌≡◌, map, take, All}
use Rattle.rbg_macro.proofs.Common.{IsMarked, read_lexeme}
use Rattle.rbg_macro.specs.Token.{lexeme_of}
use Rattle.rbg_macro.proofs.marking.MarkedMacros.mark_all.Given as goal

abbrev pub invariant-loop-token : goal.invariant-loop-token
invariant-loop-token l = (map read_lexeme l.marked.items ≡ map lexeme_of (take l.token-index l.tokens)) × All (IsMarked l.self) l.marked.items
