-- The match is that of the script's events.
use Rattle.std.proofs.Common.{◌∙◌, ap, map, subst}
use Rattle.rbg_game.specs.Loading.{Loads}
use Rattle.rbg_script.specs.Events.{event_of, owned_event_of}
use Rattle.rbg_referee.specs.Played.{IsMatchOf}
use Rattle.rbg_script.specs.Scripts.{script_of}
use Rattle.rbg_referee.proofs.PlayedLemmas.{played_seats}
use Rattle.rbg_referee.proofs.printed_match.play_script.Goals as goal

pub returns-clause-played : goal.returns-clause-played
returns-clause-played c =
    let description = c.args.description.now in
    let now = c.args.script.now.config.now in
    let made = c.in_ok-referee_match.field-0 in
    let events = ap (λ list. map event_of list) c.as_slice-2.ensures.value ∙ c.in-Ok.ensures ∙ ap (λ list. map owned_event_of list) c.as_slice.ensures.value in
    subst (λ config. IsMatchOf description config now (map owned_event_of c.args.script.now.events.items) made.0 made.1) c.config_of-config.ensures
    (subst (λ list. IsMatchOf description c.config_of-config.result now list made.0 made.1) events c.in_ok-referee_match.ensures.played)

pub returns-clause-seats : goal.returns-clause-seats
returns-clause-seats c = played_seats c.args.description.now (script_of c.args.script.now) c.in_ok-referee_match.field-0.0 c.in_ok-referee_match.field-0.1 (returns-clause-played c)

pub returns-clause-loads : goal.returns-clause-loads
returns-clause-loads c =
    let played = returns-clause-played c in
    subst (Loads c.args.description.now) played.of_game played.refereed.loads

pub returns-clause-history : goal.returns-clause-history
returns-clause-history c = (returns-clause-played c).history
