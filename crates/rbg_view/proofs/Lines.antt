-- What lines are, from what the readers of lines find.
use Rattle.std.proofs.Common.{◌≡◌, ◌↔◌, ◌==◌, ℕ, List, [], ◌++◌, codes, length, Bool, true, false, IsTrue, Option, Some, None, IfSome, IfNone, ap, subst, ◌∙◌, refl, IsSomeAnd}
use Rattle.std.specs.Global.{Vec}
use Rattle.std.proofs.lemmas.Bool.{eq-eqb}
use Rattle.rbg_script.specs.declared.config.ScriptConfig.{ScriptConfig}
use Rattle.rbg_script.specs.Config.{SpellsConfig}
use Rattle.rbg_script.specs.declared.event.Event.{Event}
use Rattle.rbg_script.specs.Events.{SpellsEvent, AbstractEvent, owned_event_of}
use Rattle.rbg_record.specs.declared.entry.Entry.TheVariants.{End as EndEntry}
use Rattle.rbg_record.specs.declared.entry.Timed.{Timed}
use Rattle.rbg_record.specs.declared.heading.Start.{Start}
use Rattle.rbg_record.proofs.LineCommon.{SpellsTimed, SpellsPlayers, SpellsStart}
use Rattle.rbg_view.specs.declared.line.RecordEnd.{RecordEnd}
use Rattle.rbg_view.specs.declared.line.ListLine.{ListLine}
use Rattle.rbg_view.specs.declared.line.ListLine.TheVariants.{Silent, Head, End, Said, Sent, Other}
use Rattle.rbg_view.specs.Lines.{IsEnd, with_moment, IsLine, IsPassedOver, IsSilent, passed_over, by_nothing, by_comment, by_players, by_start, by_config, by_event}
use Rattle.rbg_view.specs.internal.Holding.{HoldsEvent}

-- the entry with a moment that a line tells is an end
pub timed_end_found : (line : List ℕ) (timed : Timed) (answer : Option RecordEnd) → SpellsTimed line timed → IfSome answer (λ end. timed.entry ≡ EndEntry end.outcome) → IfSome answer (IsEnd line)
timed_end_found line timed (Some end) told is =
    let same : timed ≡ record { at = timed.at; entry = EndEntry end.outcome } = λ i. record { at = timed.at; entry = is i } in
    with_moment timed.at (subst (SpellsTimed line) same told)
timed_end_found line timed None told is = tt

-- the entry with a moment that a line tells is no end
pub no_timed_end : (line : List ℕ) (answer : Option RecordEnd) (timed : Timed) → ((t : Timed) → SpellsTimed line t → Some timed ≡ Some t) → IfNone answer ((end : RecordEnd) → timed.entry ≡ EndEntry end.outcome → ⊥) → IfNone answer ((end : RecordEnd) (at : ℕ) → SpellsTimed line (record { at = at; entry = EndEntry end.outcome }) → ⊥)
no_timed_end line (Some found) timed only none = tt
no_timed_end line None timed only none =
    λ end at h.
    let other : Timed = record { at = at; entry = EndEntry end.outcome } in
    let told : Some timed ≡ Some other = only other h in
    let same : timed ≡ other = cc in
    none end (ap (λ t. t.entry) same)

-- a line that is passed over
pub passed_true : (line : List ℕ) → IsPassedOver line → IsTrue true ↔ IsPassedOver line
passed_true line passed = (λ _. passed, λ _. refl)

-- a line that is none of these but perhaps a config
pub passed_config : (line : List ℕ) → (line ≡ [] → ⊥) → ((text : List ℕ) × line ≡ codes "//" ++ text → ⊥) → ((names : List (List ℕ)) × SpellsPlayers line names → ⊥) → ((start : Start) × SpellsStart line start → ⊥) → (has : Bool) → (IsTrue has ↔ ((config : ScriptConfig) × SpellsConfig line config)) → IsTrue has ↔ IsPassedOver line
passed_config line nothing comment players start has config = (λ yes. let told = config.0 yes in by_config told.0 told.1, back)
  where
    back : IsPassedOver line → IsTrue has
    back (by_nothing h) = absurd (nothing h)
    back (by_comment text h) = absurd (comment (text, h))
    back (by_players names h) = absurd (players (names, h))
    back (by_start s h) = absurd (start (s, h))
    back (by_config g h) = config.1 (g, h)

-- A line that is no event and isn't passed over tells something of moves.
pub not_silent : (line : List ℕ) → ((event : AbstractEvent) → SpellsEvent line event → ⊥) → (IsPassedOver line → ⊥) → IsSilent line → ⊥
not_silent line event over (passed_over h) = over h
not_silent line event over (by_event e h) = event e h

-- the event that is read of a line, and that there is no other one
pub event_found : (line : List ℕ) (read : Option (Event (Vec ℕ))) (event : Event (Vec ℕ)) → read ≡ Some event → IfSome read (λ e. SpellsEvent line (owned_event_of e)) → SpellsEvent line (owned_event_of event)
event_found line read event is found = subst (λ r. IfSome r (λ e. SpellsEvent line (owned_event_of e))) is found

pub event_only : (line : List ℕ) (read : Option (Event (Vec ℕ))) (event : Event (Vec ℕ)) → read ≡ Some event → ((other : AbstractEvent) → SpellsEvent line other → IsSomeAnd read (λ found. owned_event_of found ≡ other)) → (other : AbstractEvent) → SpellsEvent line other → owned_event_of event ≡ other
event_only line read event is only = λ other spells. subst (λ r. IsSomeAnd r (λ found. owned_event_of found ≡ other)) is (only other spells)

pub no_event : (line : List ℕ) (read : Option (Event (Vec ℕ))) → read ≡ None → ((other : AbstractEvent) → SpellsEvent line other → IsSomeAnd read (λ found. owned_event_of found ≡ other)) → (other : AbstractEvent) → SpellsEvent line other → ⊥
no_event line read is only = λ other spells. subst (λ r. IsSomeAnd r (λ found. owned_event_of found ≡ other)) is (only other spells)

-- what an event of a script holds
pub event_line : (line : List ℕ) (event : AbstractEvent) (held : ListLine) → SpellsEvent line event → ((other : AbstractEvent) → SpellsEvent line other → event ≡ other) → HoldsEvent event held → IsLine line held
event_line line event Silent spells only none = (by_event event spells, λ seat text says. none seat says.0 text (only _ says.1))
event_line line event (Sent seat text) spells only is = (is.0, subst (SpellsEvent line) is.1 spells)
event_line line event (Said seat text) spells only none = absurd none
event_line line event (Head version) spells only none = absurd none
event_line line event (End end) spells only none = absurd none
event_line line event (Other text) spells only none = absurd none

-- a line with a byte is not empty
pub not_empty : (line : List ℕ) → false ≡ (length line == 0) → line ≡ [] → ⊥
not_empty line test is = let apart : false ≡ true = test ∙ eq-eqb (length line) 0 (ap length is) in cc
