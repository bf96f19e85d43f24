-- Lines that are followed, and lines that stop, from what their parts do.
use Rattle.std.proofs.Common.{◌≡◌, ◌≢◌, ℕ, List, [], Bool, Option, Some, None, Result, Ok, Err, IfErr, inl, inr, subst, sym, refl, ◌∙◌}
use Rattle.rbg_moves.specs.declared.unsettled.Unsettled.{Unsettled}
use Rattle.rbg_moves.specs.declared.unsettled.Unsettled.TheVariants.{Heavy as HeavyQuestion, Endless, Memory as NoMemory}
use Rattle.rbg_record.specs.declared.heading.Version.{Version}
use Rattle.rbg_view.specs.declared.line.ListLine.{ListLine}
use Rattle.rbg_view.specs.declared.line.ListLine.TheVariants.{Silent, Head, End, Said, Sent, Other}
use Rattle.rbg_view.specs.declared.line.RecordEnd.{RecordEnd}
use Rattle.rbg_view.specs.declared.move_readings.Lead.{Lead}
use Rattle.rbg_view.specs.declared.move_readings.Reading.{Reading}
use Rattle.rbg_view.specs.declared.shown_moves.Showing.{Showing}
use Rattle.rbg_view.specs.declared.stop.Stop.{Stop}
use Rattle.rbg_view.specs.declared.stop.Stop.TheVariants.{NotLegal, NoMove, Mark, AfterEnd, Heavy, Keeper, Memory}
use Rattle.rbg_view.specs.Following.{BeginsWithMark, Follows, IsMessageLine, IsMoveLine, Standing, Stops, played_on}
use Rattle.rbg_view.specs.Following.Follows.{head, made, refused}
use Rattle.rbg_view.specs.Following.Stops.{beyond_end, no_move, mark, not_legal, keeper, heavy}
use Rattle.rbg_view.specs.Lines.{HasNoMessage, IsLine, IsOther, IsSilent, SaysMessage}
use Rattle.rbg_view.specs.Moving.{MakesNone, MakesOne, MeetsHeavy, TiresKeeper}
use Rattle.rbg_moves.specs.Playing.{Playing}
use Rattle.rbg_view.specs.Readings.{AreReadings, IsSaid, lead_of}
use Rattle.rbg_view.specs.internal.Standing.{HasReadings, IsMessageShown, IsMoveShown, KeepsLine, StopsMessage, StopsMove, standing_of}
use Rattle.rbg_view.specs.internal.Stopping.{IsNoMove, stop_of_unsettled}
use Rattle.rbg_view.specs.internal.Standing.IsMessageShown.{made as said_made, refused as said_refused}

-- where one stands where a record has told nothing more
pub stands_at : (old new : Showing) → KeepsLine old new → played_on (standing_of old) new.scene.play ≡ standing_of new
stands_at old new kept = λ i. record { playing = new.scene.play; lead = sym kept.0 i; end = sym kept.1 i }

-- the first line of a record
pub head_followed : (line : List ℕ) (from : Standing) (version : Version) (lead : Lead) → IsLine line (Head version) → from.end ≡ None → lead ≡ lead_of version → Follows line from (record { playing = from.playing; lead = Some lead; end = from.end })
head_followed line from version lead is goes_on same =
    subst (λ (l : Lead). Follows line from (record { playing = from.playing; lead = Some l; end = from.end })) (sym same) (head version is.0 goes_on)

-- a message
message_line : (line : List ℕ) (from : Standing) (seat : ℕ) (text : List ℕ) (readings : List Reading) → SaysMessage line seat text → from.end ≡ None → IsSaid seat text readings → IsMessageLine line from readings
message_line line from seat text readings says goes_on said = record { seat = seat; text = text; says = says; goes_on = goes_on; means = said }

pub message_followed : (line : List ℕ) (from : Standing) (seat : ℕ) (text : List ℕ) (to : Playing) → SaysMessage line seat text → from.end ≡ None → IsMessageShown seat text from.playing to → Follows line from (played_on from to)
message_followed line from seat text to says goes_on (said_made readings said one) = made (inl (message_line line from seat text readings says goes_on said)) one
message_followed line from seat text to says goes_on (said_refused readings said none) = refused (message_line line from seat text readings says goes_on said) none

pub message_stops : (line : List ℕ) (from : Standing) (seat : ℕ) (text : List ℕ) (to : Playing) → SaysMessage line seat text → from.end ≡ None → (stop : Stop) → StopsMessage seat text from.playing stop to → stop ≢ Memory → Stops line from stop (played_on from to)
message_stops line from seat text to says goes_on Memory told other = absurd (other refl)
message_stops line from seat text to says goes_on Heavy told other = heavy (inl (message_line line from seat text told.0 says goes_on told.1)) told.2
message_stops line from seat text to says goes_on Keeper told other = keeper (inl (message_line line from seat text told.0 says goes_on told.1)) told.2
message_stops line from seat text to says goes_on NotLegal told other = absurd told
message_stops line from seat text to says goes_on NoMove told other = absurd told
message_stops line from seat text to says goes_on Mark told other = absurd told
message_stops line from seat text to says goes_on AfterEnd told other = absurd told

-- a message is made or refused
pub said_and_made : (seat : ℕ) (text : List ℕ) (items readings : List Reading) (from to : Playing) → readings ≡ items → IsSaid seat text items → MakesOne readings from to → IsMessageShown seat text from to
said_and_made seat text items readings from to same said one = said_made readings (subst (IsSaid seat text) (sym same) said) one

pub said_and_refused : (seat : ℕ) (text : List ℕ) (items readings : List Reading) (from middle to : Playing) → readings ≡ items → IsSaid seat text items → MakesNone readings from middle → to ≡ middle → IsMessageShown seat text from to
said_and_refused seat text items readings from middle to same said none kept =
    said_refused readings (subst (IsSaid seat text) (sym same) said) (subst (λ (p : Playing). MakesNone readings from p) (sym kept) none)

-- why a message or a move stops, from why none was made
pub message_unsettled : (seat : ℕ) (text : List ℕ) (items readings : List Reading) (from to : Playing) (result : Result Bool Unsettled) (why : Unsettled) → readings ≡ items → IsSaid seat text items → result ≡ Err why → (result ≡ Err HeavyQuestion → MeetsHeavy readings from to) → (result ≡ Err Endless → TiresKeeper readings from to) → StopsMessage seat text from (stop_of_unsettled why) to
message_unsettled seat text items readings from to result HeavyQuestion same said was hard tires = (readings, subst (IsSaid seat text) (sym same) said, hard was)
message_unsettled seat text items readings from to result Endless same said was hard tires = (readings, subst (IsSaid seat text) (sym same) said, tires was)
message_unsettled seat text items readings from to result NoMemory same said was hard tires = tt

pub move_unsettled : (lead : Option Lead) (text : List ℕ) (readings : List Reading) (from to : Playing) (result : Result Bool Unsettled) (why : Unsettled) → HasReadings lead text readings → result ≡ Err why → (result ≡ Err HeavyQuestion → MeetsHeavy readings from to) → (result ≡ Err Endless → TiresKeeper readings from to) → StopsMove lead text from (stop_of_unsettled why) to
move_unsettled lead text readings from to result HeavyQuestion has was hard tires = (readings, has, hard was)
move_unsettled lead text readings from to result Endless has was hard tires = (readings, has, tires was)
move_unsettled lead text readings from to result NoMemory has was hard tires = tt

-- readings that are some
pub has_readings : (lead : Option Lead) (text : List ℕ) (items readings : List Reading) → readings ≡ items → AreReadings text lead items → (items ≡ [] → ⊥) → HasReadings lead text readings
has_readings lead text items readings same are some = record {
  are = subst (AreReadings text lead) (sym same) are;
  some = λ empty. some (sym same ∙ empty);
}

-- a line that is no move
pub no_reading : (lead : Option Lead) (text : List ℕ) (items : List Reading) (from : Playing) (stop : Stop) → AreReadings text lead items → items ≡ [] → IsNoMove text stop → StopsMove lead text from stop from
no_reading lead text items from Mark are empty is = (refl, subst (AreReadings text lead) empty are, is)
no_reading lead text items from NoMove are empty is = (refl, subst (AreReadings text lead) empty are, is)
no_reading lead text items from NotLegal are empty is = absurd is
no_reading lead text items from AfterEnd are empty is = absurd is
no_reading lead text items from Heavy are empty is = absurd is
no_reading lead text items from Keeper are empty is = absurd is
no_reading lead text items from Memory are empty is = absurd is

-- a move
move_line : (line text : List ℕ) (from : Standing) (readings : List Reading) → text ≡ line → IsOther line → from.end ≡ None → HasReadings from.lead text readings → IsMoveLine line from readings
move_line line text from readings same other goes_on has = record {
  other = other;
  goes_on = goes_on;
  means = subst (λ (t : List ℕ). AreReadings t from.lead readings) same has.are;
  some = has.some;
}

pub move_followed : (line text : List ℕ) (from : Standing) (to : Playing) → (text ≡ line) × IsOther line → from.end ≡ None → IsMoveShown from.lead text from.playing to → Follows line from (played_on from to)
move_followed line text from to is goes_on shown = made (inr (move_line line text from shown.readings is.0 is.1 goes_on shown.has)) shown.made

pub move_stops : (line text : List ℕ) (from : Standing) (to : Playing) → (text ≡ line) × IsOther line → from.end ≡ None → (stop : Stop) → StopsMove from.lead text from.playing stop to → stop ≢ Memory → Stops line from stop (played_on from to)
move_stops line text from to is goes_on Memory told other = absurd (other refl)
move_stops line text from to is goes_on Heavy told other = heavy (inr (move_line line text from told.0 is.0 is.1 goes_on told.1)) told.2
move_stops line text from to is goes_on Keeper told other = keeper (inr (move_line line text from told.0 is.0 is.1 goes_on told.1)) told.2
move_stops line text from to is goes_on NotLegal told other = not_legal (move_line line text from told.0 is.0 is.1 goes_on told.1) told.2
move_stops line text from to is goes_on NoMove told other =
    subst (λ (p : Playing). Stops line from NoMove (played_on from p)) (sym told.0)
    (no_move is.1 goes_on (subst (λ (t : List ℕ). AreReadings t from.lead []) is.0 told.1) (subst (λ (t : List ℕ). ¬ BeginsWithMark t) is.0 told.2))
move_stops line text from to is goes_on Mark told other =
    subst (λ (p : Playing). Stops line from Mark (played_on from p)) (sym told.0)
    (mark is.1 goes_on (subst (λ (t : List ℕ). AreReadings t from.lead []) is.0 told.1) (subst (λ (t : List ℕ). BeginsWithMark t) is.0 told.2))
move_stops line text from to is goes_on AfterEnd told other = absurd told

-- A line that holds something tells something, so it may not stand after the end of a record.
pub holds_something : (line : List ℕ) (held : ListLine) → held ≢ Silent → IsLine line held → IsSilent line → HasNoMessage line → ⊥
holds_something line Silent some is silent none = some refl
holds_something line (Head version) some is silent none = is.1 silent
holds_something line (End end) some is silent none = is.1 silent
holds_something line (Said seat text) some is silent none = none seat text.now is
holds_something line (Sent seat text) some is silent none = none seat text.items is
holds_something line (Other text) some is silent none = is.1.no_silence silent

pub stops_after_end : (line : List ℕ) (held : ListLine) (from : Standing) (end : RecordEnd) → held ≢ Silent → IsLine line held → from.end ≡ Some end → Stops line from AfterEnd from
stops_after_end line held from end some is told = beyond_end end told (holds_something line held some is)

-- what a call says of an error, weakened
pub err_weaker : {T : Type 0} (result : Result T Stop) (P Q : Stop → Type 0) → ((stop : Stop) → P stop → Q stop) → IfErr result P → IfErr result Q
err_weaker (Ok x) P Q f p = tt
err_weaker (Err s) P Q f p = f s p

-- a message that is shown, for each line that holds it
pub message_shown : (old new : Showing) (seat : ℕ) (text : List ℕ) → KeepsLine old new → old.end ≡ None → IsMessageShown seat text old.scene.play new.scene.play → (line : List ℕ) → SaysMessage line seat text → Follows line (standing_of old) (standing_of new)
message_shown old new seat text kept goes_on shown line says =
    subst (Follows line (standing_of old)) (stands_at old new kept) (message_followed line (standing_of old) seat text new.scene.play says goes_on shown)

pub message_stopped : (old new : Showing) (seat : ℕ) (text : List ℕ) → KeepsLine old new → old.end ≡ None → (stop : Stop) → StopsMessage seat text old.scene.play stop new.scene.play → stop ≢ Memory → (line : List ℕ) → SaysMessage line seat text → Stops line (standing_of old) stop (standing_of new)
message_stopped old new seat text kept goes_on stop told other line says =
    subst (Stops line (standing_of old) stop) (stands_at old new kept) (message_stops line (standing_of old) seat text new.scene.play says goes_on stop told other)

-- a move that is shown, for each line that is it
pub move_shown : (old new : Showing) (text : List ℕ) → KeepsLine old new → old.end ≡ None → IsMoveShown old.lead text old.scene.play new.scene.play → (line : List ℕ) → (text ≡ line) × IsOther line → Follows line (standing_of old) (standing_of new)
move_shown old new text kept goes_on shown line is =
    subst (Follows line (standing_of old)) (stands_at old new kept) (move_followed line text (standing_of old) new.scene.play is goes_on shown)

pub move_stopped : (old new : Showing) (text : List ℕ) → KeepsLine old new → old.end ≡ None → (stop : Stop) → StopsMove old.lead text old.scene.play stop new.scene.play → stop ≢ Memory → (line : List ℕ) → (text ≡ line) × IsOther line → Stops line (standing_of old) stop (standing_of new)
move_stopped old new text kept goes_on stop told other line is =
    subst (Stops line (standing_of old) stop) (stands_at old new kept) (move_stops line text (standing_of old) new.scene.play is goes_on stop told other)
