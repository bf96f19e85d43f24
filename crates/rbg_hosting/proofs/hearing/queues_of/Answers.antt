-- There are as many tables as there may be, and their config is that of the script.
use Rattle.std.proofs.Common.{◌∙◌, ap, map, subst}
use Rattle.rbg_hall.proofs.Common.{starts_of}
use Rattle.rbg_script.specs.Events.{event_of, owned_event_of}
use Rattle.rbg_hosting.specs.Tables.{AreTablesOf, texts_of}
use Rattle.rbg_script.specs.Scripts.{script_of}
use Rattle.rbg_hosting.proofs.HallLemmas.{hall_is_no_hall, heard_hall}
use Rattle.rbg_hosting.proofs.hearing.queues_of.Goals as goal

pub returns-clause-refused : goal.returns-clause-refused
returns-clause-refused c =
    let texts = texts_of c.args.descriptions.now in
    let starts = starts_of c.in_ok-tables.tables.items in
    hall_is_no_hall texts (script_of c.args.script.now) starts c.requires
    (subst (λ config. AreTablesOf config texts starts) c.config_of.ensures c.in_ok-tables.ensures.tables)
    c.in-Err-whole_hall.error c.in-Err-whole_hall.ensures.refused c.from.result c.from.ensures

pub returns-in-Ok-whole_hall-clause-heard : goal.returns-in-Ok-whole_hall-clause-heard
returns-in-Ok-whole_hall-clause-heard c =
    let events = ap (λ list. map event_of list) c.as_slice-2.ensures.value ∙ c.in-Ok.ensures ∙ ap (λ list. map owned_event_of list) c.as_slice.ensures.value in
    heard_hall (texts_of c.args.descriptions.now) (script_of c.args.script.now) (starts_of c.in_ok-tables.tables.items) c.config_of.result (map event_of c.as_slice-2.result.now) c.in-Ok-whole_hall.out
    c.config_of.ensures c.in_ok-tables.ensures.tables events c.in-Ok-whole_hall.ensures.allowed
