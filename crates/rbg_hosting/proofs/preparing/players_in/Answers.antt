-- One more table has players.
use Rattle.std.proofs.Common.{◌∙◌, ◌++◌, ◌∷◌, [], ap, map, sym, take}
use Rattle.rbg_base.proofs.CallerLemmas.{map-take_more}
use Rattle.rbg_hall.specs.declared.table.Table.{Table}
use Rattle.rbg_match.specs.PlayingOn.{seats_of}
use Rattle.rbg_hosting.proofs.preparing.players_in.Goals as goal

pub loop-table-preserved : goal.loop-table-preserved
loop-table-preserved c =
    c.in_ok-push.ensures.items
    ∙ ap (λ players. players ++ c.players.result ∷ []) c.loop-table.invariant
    ∙ ap (λ n. map (λ (table : Table). seats_of table.game) (take c.loop-table.table-index c.args.tables.now) ++ n ∷ []) c.players.ensures.count
    ∙ sym (map-take_more (λ (table : Table). seats_of table.game) c.args.tables.now c.loop-table.table-index c.table-item.result c.loop-table-test.true c.table-item.is)
