-- The hall is the new one, since a log changes nothing of its state.
use Rattle.rbg_base.proofs.Common.{◌≡◌, ◌∙◌, ◌≤◌, All, ap, arith, length, length-map, map, subst, sym}
use Rattle.rbg_hall.specs.Openings.{start_of, starts_of}
use Rattle.rbg_hall.specs.declared.table.Table.{Table}
use Rattle.rbg_match.specs.PlayingOn.{seats_of}
use Rattle.rbg_hosting.specs.Pasts.{HasConfig, config_from}
use Rattle.rbg_hosting.specs.Tables.{texts_of}
use Rattle.rbg_hosting.specs.internal.Recorded.{ArePlaces}
use Rattle.rbg_hosting.specs.internal.Resuming.{past_in_code, pasts_in}
use Rattle.rbg_hosting.proofs.HallLemmas.{texts_count}
use Rattle.rbg_hosting.proofs.ResumingLemmas.{prepared_again}
use Rattle.rbg_hosting.proofs.TableLemmas.{as_many}
use Rattle.rbg_hosting.proofs.going_on.prepare_again.Goals as goal

pub returns-clause-prepared : goal.returns-clause-prepared
returns-clause-prepared g c =
    let first = c.in_ok-hall.ensures in
    let tables = c.in_ok-tables.tables.items in
    let pasts = pasts_in c.in_ok-pasts.pasts.items in
    let texts = texts_of c.args.resumed.descriptions.now in
    prepared_again c.args.resumed.serving.now.config c.in_ok-config.config texts _ _ c.keep_again.new.hall c.in_ok-hall.out pasts c.in_ok-players.players.items c.in_ok-noted.noted.items tables
    (length-map c.in_ok-pasts.pasts.items past_in_code ∙ c.in_ok-pasts.ensures.as_many ∙ sym (texts_count c.args.resumed.descriptions.now))
    c.in_ok-pasts.ensures.logs
    (c.in_ok-config.ensures.is ∙ ap (λ them. config_from c.args.resumed.serving.now.config (pasts_in them)) c.as_slice.ensures.value)
    (subst (λ them. All (HasConfig c.in_ok-config.config) (pasts_in them)) c.as_slice.ensures.value c.in_ok-config.ensures.all)
    c.in_ok-tables.ensures.tables
    (record {
      lawful = first.lawful;
      configs = first.configs;
      is = c.keep_again.ensures.state ∙ first.is;
      works = c.keep_again.ensures.failed ∙ first.works;
      queued = first.queued;
    })
    (c.in_ok-players.ensures ∙ ap (map (λ (table : Table). seats_of table.game)) c.as_slice-2.ensures.value)
    (subst (λ n. ArePlaces (g.A.Archive.wants c.args.archive.now) n c.in_ok-noted.noted.items) (c.len.ensures ∙ c.in_ok-tables.tables.ok.0 ∙ sym (length-map tables start_of)) c.in_ok-noted.ensures)

pub returns-clause-as_many : goal.returns-clause-as_many
returns-clause-as_many g c =
    let same : length c.in_ok-players.players.items ≡ length c.in_ok-pasts.pasts.items =
    ap length c.in_ok-players.ensures
    ∙ length-map c.as_slice-2.result.now (λ (table : Table). seats_of table.game)
    ∙ ap length c.as_slice-2.ensures.value
    ∙ sym (length-map c.in_ok-tables.tables.items start_of)
    ∙ as_many c.in_ok-config.config (texts_of c.args.resumed.descriptions.now) (starts_of c.in_ok-tables.tables.items) c.in_ok-tables.ensures.tables
    ∙ texts_count c.args.resumed.descriptions.now
    ∙ sym c.in_ok-pasts.ensures.as_many in
    omega (arith, same)
