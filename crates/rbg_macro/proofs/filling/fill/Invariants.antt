-- The tokens so far are those of the items so far.
use Rattle.std.proofs.Common.{◌≡◌, map, take}
use Rattle.rbg_macro.proofs.Common.{filled, FillsMarks, item_in, lists_in, read_lexeme}
use Rattle.rbg_macro.proofs.filling.fill.Given as goal

abbrev pub invariant-loop-item : goal.invariant-loop-item
invariant-loop-item l = (map read_lexeme l.tokens.items ≡ filled (map item_in (take l.item-index l.body)) (lists_in l.arguments)) × FillsMarks l.body l.arguments l.tokens.items
