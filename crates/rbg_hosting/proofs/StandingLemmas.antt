-- How the matches of a hall stand after an event.
use Rattle.rbg_base.proofs.Common.{◌≡◌, ℕ, zero, suc, ◌+◌, List, [], ◌∷◌, ◌++◌, Bool, true, false, Option, Some, None, is_some, slice_get, ap, sym, ◌∙◌, refl, subst, false≢true, same_Some}
use Rattle.rbg_wire.specs.declared.outcome.Outcome.{Outcome}
use Rattle.rbg_match.specs.Matches.{MatchState}
use Rattle.rbg_script.specs.Events.{AbstractEvent}
use Rattle.rbg_hall.proofs.Common.{EachHears, HallHears, HallState, HearsEach, begun_of}
use Rattle.rbg_hall.specs.Halls as halls
use Rattle.rbg_hall.specs.Serving.{has_ended}
use Rattle.rbg_hall.specs.Tables.{Hears, OwnEvent, Plays, TableState}
use Rattle.rbg_hall.specs.Tables as tables
use Rattle.rbg_hall.specs.Tellings.{Telling}
use Rattle.rbg_hosting.specs.internal.Recorded.{StandAfter, StandsAfter}
use Rattle.rbg_hosting.specs.internal.Recorded.StandsAfter.{same, works}

-- after events, and then others
stands_on : {first second third : Option MatchState} → StandsAfter first second → StandsAfter second third → StandsAfter first third
stands_on same next = next
stands_on (works playing going alive) same = works playing going alive
stands_on (works playing going alive) (works next _ next_alive) = works next going next_alive

-- a match after an event: where it had ended it is as it was
played_stands : (old new : MatchState) (outcome : Option Outcome) → old.play.outcome ≡ outcome → new.failed ≡ false → ((one : Outcome) → old.play.outcome ≡ Some one → new ≡ old) → StandsAfter (Some old) (Some new)
played_stands old new None is alive stays = works new (ap is_some is) alive
played_stands old new (Some one) is alive stays = subst (λ (m : MatchState). StandsAfter (Some old) (Some m)) (sym (stays one is)) same

plays_stand : {old new : TableState} {event : AbstractEvent} {told : List Telling} → Plays old event new told → StandsAfter old.begun new.begun
plays_stand {old = old} plays =
    subst (λ begun. StandsAfter old.begun begun) (sym (ap (λ (one : TableState). one.begun) plays.is))
    (subst (λ begun. StandsAfter begun (Some plays.after)) (sym plays.begun)
    (played_stands plays.before plays.after plays.before.play.outcome refl plays.steps.works plays.steps.stays))

hears_stands : {old new : TableState} {event : OwnEvent} {told : List Telling} → Hears old event new told → StandsAfter old.begun new.begun
hears_stands (tables.waits _) = same
hears_stands (tables.ticks plays) = plays_stand plays
hears_stands (tables.sits index other _ _ _ _) = same
hears_stands (tables.begins {opened = opened} index unbegun _ _ _ opens) = works opened (ap has_ended unbegun) opens.works
hears_stands (tables.is_full _ _) = same
hears_stands (tables.comes_late _ _) = same
hears_stands (tables.stays _) = same
hears_stands (tables.waits_too _) = same
hears_stands (tables.stirs index _ plays) = plays_stand plays
hears_stands (tables.is_early index _ _) = same
hears_stands (tables.plays index _ plays) = plays_stand plays
hears_stands (tables.frees index _ _) = same
hears_stands (tables.goes index _ plays) = plays_stand plays
hears_stands (tables.is_moment_for_none _) = same
hears_stands (tables.is_unheard _) = same
hears_stands (tables.goes_unheard _) = same

all_stand : {old new : TableState} {events : List OwnEvent} {told : List Telling} → HearsEach old events new told → StandsAfter old.begun new.begun
all_stand halls.none = same
all_stand (halls.more earlier hears) = stands_on (all_stand earlier) (hears_stands hears)

each_stands : {heard : (table : ℕ) → List OwnEvent} {table : ℕ} {olds news : List TableState} {told : List (List Telling)} → EachHears heard table olds news told → (index : ℕ) → StandsAfter (begun_of (slice_get olds index)) (begun_of (slice_get news index))
each_stands halls.none zero = same
each_stands halls.none (suc index) = same
each_stands (halls.more hears next) zero = all_stand hears
each_stands (halls.more hears next) (suc index) = each_stands next index

-- the matches of a hall after an event
pub hall_stands : {old new : HallState} {event : AbstractEvent} {before after : List (List ℕ)} → HallHears old event new before after → StandAfter old.tables new.tables
hall_stands hears index = each_stands hears.steps.tables index

-- one that had ended is as it was
pub stays_ended : {before after : Option MatchState} → StandsAfter before after → has_ended before ≡ true → after ≡ before
stays_ended same ended = refl
stays_ended (works playing going alive) ended = absurd (false≢true (sym going ∙ ended))

-- one that has ended since works
pub works_since : {before after : Option MatchState} → StandsAfter before after → has_ended before ≡ false → (playing : MatchState) → after ≡ Some playing → is_some playing.play.outcome ≡ true → playing.failed ≡ false
works_since same going playing is ended = absurd (false≢true (sym going ∙ (ap has_ended is ∙ ended)))
works_since (works other _ alive) going playing is ended = subst (λ (m : MatchState). m.failed ≡ false) (same_Some _ _ is) alive
