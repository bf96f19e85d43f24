-- The lines of the events of an entry.
use Rattle.rbg_base.proofs.Common.{◌≡◌, ◌≢◌, ℕ, zero, suc, List, [], ◌∷◌, ◌++◌, codes, refl, sym, ap, ◌∙◌, subst, arith, append-nil, append_assoc, Result, Ok, Err, OnOk, flat_map-append, All-nil, All-cons, All-append}
use Rattle.rbg_base.proofs.CallerLemmas.{AllZip-append}
use Rattle.rbg_wire.proofs.Common.{LacksByte, line_feed, line_of, lines_of, ArePairs, message_text, pairs_text, spelling, AppendsAll}
use Rattle.rbg_record.proofs.Lacking.{pairs_feedless}
use Rattle.rbg_script.specs.Events.{EventHasSpelling, HasFields, SpellsEvent, by_message, event_text, fields_text, AbstractEvent, piece}
use Rattle.rbg_script.proofs.Lacking.{written_read, message_lacks}
use Rattle.rbg_record.specs.Scripting.{move_events}
use Rattle.rbg_record.specs.internal.Telling.{AppendsEvents}

pub tells_nothing : (old : List ℕ) → AppendsEvents [] old old
tells_nothing old = record { lines = []; is = sym (append-nil old); spelled = tt; whole = All-nil (LacksByte line_feed) }

-- one line
tells_line : (line : List ℕ) (event : AbstractEvent) (old new : List ℕ) → SpellsEvent line event → LacksByte line_feed line → new ≡ old ++ line_of line → AppendsEvents (event ∷ []) old new
tells_line line event old new spells lacks is = record {
  lines = line ∷ [];
  is = is ∙ ap (λ (bytes : List ℕ). old ++ bytes) (sym (append-nil (line_of line)));
  spelled = (spells, tt);
  whole = All-cons (LacksByte line_feed) line [] lacks (All-nil (LacksByte line_feed));
}

-- an event that is written as such
pub tells_event : {E : Type 0} (event : AbstractEvent) (old new : List ℕ) (result : Result (Unit {0}) E) → EventHasSpelling event → AppendsAll old new (line_of (event_text event)) result → OnOk result (AppendsEvents (event ∷ []) old new)
tells_event event old new (Ok done) has appends = tells_line (event_text event) event old new (written_read.events event has) (written_read.event_lines event has) appends.ok
tells_event event old new (Err error) has appends = tt

-- a message
pub tells_message : {E : Type 0} (seat at : ℕ) (said old new : List ℕ) (result : Result (Unit {0}) E) → HasFields (fields_text (codes "m ") seat at said) (codes "m ") seat at said → LacksByte line_feed said → AppendsAll old new (line_of (fields_text (codes "m ") seat at said)) result → OnOk result (AppendsEvents (piece seat at (said ++ 0 ∷ []) ∷ []) old new)
tells_message seat at said old new (Ok done) fields lacks appends =
    tells_line (fields_text (codes "m ") seat at said) (piece seat at (said ++ 0 ∷ [])) old new (by_message seat at said fields) (message_lacks seat at said fields.numbers lacks) appends.ok
tells_message seat at said old new (Err error) fields lacks appends = tt

-- the text of a move
pub move_lacks : (pairs : List (ℕ × ℕ)) → ArePairs pairs → LacksByte line_feed (77 ∷ pairs_text pairs)
move_lacks pairs are = All-cons (λ byte. byte ≢ line_feed) 77 (pairs_text pairs) (λ same. absurd (omega (arith, same))) (pairs_feedless pairs are.short)

pub moves_of_player : (at player : ℕ) (pairs : List (ℕ × ℕ)) → (player ≡ 0 → ⊥) → move_events at player pairs ≡ piece player at ((77 ∷ pairs_text pairs) ++ 0 ∷ []) ∷ []
unfolding spelling message_text
moves_of_player at zero pairs other = absurd (other refl)
moves_of_player at (suc before) pairs other = refl

pub moves_of_keeper : (at player : ℕ) (pairs : List (ℕ × ℕ)) → player ≡ 0 → move_events at player pairs ≡ []
moves_of_keeper at player pairs keeper = ap (λ (one : ℕ). move_events at one pairs) keeper

-- the line of a move that a player makes
pub made_told : (at player : ℕ) (pairs : List (ℕ × ℕ)) (said old new : List ℕ) → (player ≡ 0 → ⊥) → ArePairs pairs → said ≡ codes "M" ++ pairs_text pairs → HasFields (fields_text (codes "m ") player at said) (codes "m ") player at said → new ≡ old ++ line_of (fields_text (codes "m ") player at said) → AppendsEvents (move_events at player pairs) old new
made_told at player pairs said old new other are is fields written =
    let spells = subst (λ (one : List ℕ). SpellsEvent (fields_text (codes "m ") player at said) (piece player at (one ++ 0 ∷ []))) is (by_message player at said fields) in
    let lacks = message_lacks player at said fields.numbers (subst (LacksByte line_feed) (sym is) (move_lacks pairs are)) in
    subst (λ (events : List AbstractEvent). AppendsEvents events old new) (sym (moves_of_player at player pairs other))
    (tells_line (fields_text (codes "m ") player at said) (piece player at ((77 ∷ pairs_text pairs) ++ 0 ∷ [])) old new spells lacks written)

-- events after others
pub tells_both : (first next : List AbstractEvent) (old middle new : List ℕ) → AppendsEvents first old middle → AppendsEvents next middle new → AppendsEvents (first ++ next) old new
tells_both first next old middle new one other = record {
  lines = one.lines ++ other.lines;
  is =
      other.is
      ∙ ap (λ (bytes : List ℕ). bytes ++ lines_of other.lines) one.is
      ∙ append_assoc old (lines_of one.lines) (lines_of other.lines)
      ∙ ap (λ (bytes : List ℕ). old ++ bytes) (sym (flat_map-append line_of one.lines other.lines));
  spelled = AllZip-append SpellsEvent one.lines other.lines first next one.spelled other.spelled;
  whole = All-append (LacksByte line_feed) one.lines other.lines one.whole other.whole;
}
