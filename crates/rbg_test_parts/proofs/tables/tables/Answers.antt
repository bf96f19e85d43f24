-- One table more is that of its game.
use Rattle.std.proofs.Common.{sym, subst}
use Rattle.std.proofs.lemmas.List.Elements.{All-push}
use Rattle.rbg_hall.specs.Openings.{AreLoaded}
use Rattle.rbg_hall.specs.declared.table.Table.{Table}
use Rattle.rbg_game.specs.Loading.{Loads}
use Rattle.rbg_test_parts.proofs.tables.tables.Goals as goal

pub loop-config-preserved : goal.loop-config-preserved
loop-config-preserved c =
    subst AreLoaded (sym c.in_ok-push.ensures.items)
    (All-push (λ (table : Table). Loads table.text.items table.game) c.loop-config.tables.items c.in_ok-table.field-0 c.loop-config.invariant c.in_ok-table.ensures)
