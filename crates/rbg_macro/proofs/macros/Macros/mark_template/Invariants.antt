-- The items so far are the template's, marked.
use Rattle.std.proofs.Common.{◌≡◌, map, take, All}
use Rattle.rbg_macro.proofs.Common.{IsMarkedItem, item_in}
use Rattle.rbg_macro.proofs.macros.Macros.mark_template.Given as goal

abbrev pub invariant-loop-item : goal.invariant-loop-item
invariant-loop-item l = (map item_in l.body.items ≡ map item_in (take l.item-index l.item-items)) × All (IsMarkedItem l.self) l.body.items
