use Rattle.rbg_game.proofs.NameLemmas.{key_is_name}
use Rattle.rbg_game.proofs.name_table.NameTable.to_names.Goals as goal

pub name_text-requires : goal.name_text-requires
name_text-requires c =
    let is = rw c.deref-name-items.ensures.value at c.name-item.is in
    let below = rw c.deref-name-items.ensures.value at c.loop-name-test.true in
    key_is_name c.self.inside.names.items c.loop-name.name-index c.name-item.result c.self.invariant.lawful.names below is
