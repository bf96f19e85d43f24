-- The hall is the new one, since a log changes nothing of its state.
use Rattle.rbg_base.proofs.Common.{◌∙◌, ap, length-map, map, subst, sym}
use Rattle.rbg_hall.specs.Openings.{start_of, starts_of}
use Rattle.rbg_hall.specs.declared.table.Table.{Table}
use Rattle.rbg_match.specs.PlayingOn.{seats_of}
use Rattle.rbg_hosting.specs.internal.Recorded.{ArePlaces}
use Rattle.rbg_hosting.proofs.ResumingLemmas.{players_are}
use Rattle.rbg_hosting.proofs.preparing.prepare.Goals as goal

pub returns-clause-prepared : goal.returns-clause-prepared
returns-clause-prepared g c =
    let first = c.in_ok-hall.ensures in
    let tables = c.in_ok-tables.tables.items in
    record {
      tables = starts_of tables;
      are = c.in_ok-tables.ensures.tables;
      is = record {
        lawful = first.lawful;
        configs = first.configs;
        is = c.keep_logs.ensures.state ∙ first.is;
        works = c.keep_logs.ensures.failed ∙ first.works;
        queued = first.queued;
      };
      players_are = players_are c.in_ok-players.players.items tables (c.in_ok-players.ensures ∙ ap (map (λ (table : Table). seats_of table.game)) c.as_slice.ensures.value);
      places = subst (λ n. ArePlaces (g.A.Archive.wants c.args.archive.now) n c.in_ok-noted.noted.items) (c.len.ensures ∙ c.in_ok-tables.tables.ok.0 ∙ sym (length-map tables start_of)) c.in_ok-noted.ensures;
    }
