-- What is written has no line feed, and is read back.
use Rattle.rbg_base.proofs.Common.{◌≡◌, ◌≢◌, ℕ, ◌+◌, length, take, get_or, ◌/◌, ◌%◌, ◌<◌, ◌^◌, true, false, List, [], ◌∷◌, ◌++◌, decimal, codes, map, slice_index, All, refl, subst, arith, not, ◌==◌, flat_map, list_all, AllZip, and_parts, All-nil, All-cons, All-append, All-head, All-tail, All-get_or, All-more}
use Rattle.hex.specs.Hex.{lower_digits}
use Rattle.rbg_wire.specs.Bytes.{LacksByte}
use Rattle.rbg_wire.proofs.NumberLemmas.{lacks_byte-decimal}
use Rattle.rbg_script.specs.declared.config.ScriptConfig.{ScriptConfig}
use Rattle.rbg_script.specs.Config.{ConfigHasSpelling, SpellsConfig, config_text}
use Rattle.rbg_script.specs.Events.{AbstractEvent, AreNumbers, piece, end_of_stream, moment_alone, EventHasSpelling, SpellsEvent, by_digits, by_end, by_tick, byte_text, event_text, fields_text, end_text, tick_text}
use Rattle.rbg_script.specs.Laws.{WrittenIsRead}
use Rattle.rbg_script.specs.Scripts.{AbstractScript, ScriptHasSpelling, SpellsScript, script_text}
use Rattle.rbg_script.proofs.Digits.{spells_written}
use Rattle.rbg_script.proofs.LineLemmas.{whole_lines}
use Rattle.rbg_script.proofs.Parts.{turn_small, refusals_small}

nothing_lacks : LacksByte 10 []
nothing_lacks = All-nil (λ other. other ≢ 10)

both_lack : (a b : List ℕ) → LacksByte 10 a → LacksByte 10 b → LacksByte 10 (a ++ b)
both_lack a b h k = All-append (λ other. other ≢ 10) a b h k

-- a text of bytes that are known
known : (text : List ℕ) → list_all (λ byte. not (byte == 10)) text ≡ true → LacksByte 10 text
known [] h = nothing_lacks
known (byte ∷ text) h =
    let tests = and_parts (not (byte == 10)) (list_all (λ b. not (b == 10)) text) h in
    All-cons (λ b. b ≢ 10) byte text (λ same. let apart : false ≡ true = subst (λ b. not (b == 10) ≡ true) same tests.0 in cc) (known text tests.1)

space_lacks_feed : LacksByte 10 (codes " ")
space_lacks_feed = known (codes " ") refl

number_lacks : (n : ℕ) → n < 2 ^ 64 → LacksByte 10 (decimal n)
number_lacks n small = lacks_byte-decimal 10 n (omega arith) small

-- a word, and two fields with a space after each
fields_lack : (word a b rest : List ℕ) → LacksByte 10 word → LacksByte 10 a → LacksByte 10 b → LacksByte 10 rest → LacksByte 10 (word ++ a ++ codes " " ++ b ++ codes " " ++ rest)
fields_lack word a b rest h k m n =
    both_lack (word ++ a ++ codes " " ++ b ++ codes " ") rest
    (both_lack (word ++ a ++ codes " " ++ b) (codes " ")
    (both_lack (word ++ a ++ codes " ") b (both_lack (word ++ a) (codes " ") (both_lack word a h k) space_lacks_feed) m) space_lacks_feed)
    n

config_lacks : (config : ScriptConfig) → ConfigHasSpelling config → LacksByte 10 (config_text config)
unfolding config_text
config_lacks config h =
    fields_lack (codes "config ") (decimal config.turn_ms) (decimal config.refusals) (decimal config.now) (known (codes "config ") refl)
    (number_lacks config.turn_ms (turn_small config.turn_ms config.refusals h.0)) (number_lacks config.refusals (refusals_small config.turn_ms config.refusals h.0))
    (number_lacks config.now h.1)

digit_lacks : (d : ℕ) → d < 16 → slice_index lower_digits d ≢ 10
digit_lacks d small = All-get_or (λ other. other ≢ 10) lower_digits d 0 small (known lower_digits refl)

byte_lacks : (byte : ℕ) → byte < 256 → LacksByte 10 (byte_text byte)
byte_lacks byte small =
    All-cons (λ b. b ≢ 10) (slice_index lower_digits (byte / 16)) (slice_index lower_digits (byte % 16) ∷ []) (digit_lacks (byte / 16) (omega arith))
    (All-cons (λ b. b ≢ 10) (slice_index lower_digits (byte % 16)) [] (digit_lacks (byte % 16) (omega arith)) nothing_lacks)

digits_lack : (bytes : List ℕ) → All (λ byte. byte < 256) bytes → LacksByte 10 (flat_map byte_text bytes)
digits_lack [] h = nothing_lacks
digits_lack (byte ∷ bytes) h =
    both_lack (byte_text byte) (flat_map byte_text bytes) (byte_lacks byte (All-head (λ b. b < 256) byte bytes h)) (digits_lack bytes (All-tail (λ b. b < 256) byte bytes h))

event_lacks : (event : AbstractEvent) → EventHasSpelling event → LacksByte 10 (event_text event)
unfolding event_text fields_text end_text tick_text
event_lacks (piece seat at bytes) h =
    fields_lack (codes "p ") (decimal seat) (decimal at) (flat_map byte_text bytes) (known (codes "p ") refl) (number_lacks seat h.0.0) (number_lacks at h.0.1) (digits_lack bytes h.1)
event_lacks (end_of_stream seat at) h =
    both_lack (codes "e " ++ decimal seat ++ codes " ") (decimal at)
    (both_lack (codes "e " ++ decimal seat) (codes " ") (both_lack (codes "e ") (decimal seat) (known (codes "e ") refl) (number_lacks seat h.0)) space_lacks_feed) (number_lacks at h.1)
event_lacks (moment_alone at) h = both_lack (codes "t ") (decimal at) (known (codes "t ") refl) (number_lacks at h)

config_read : (config : ScriptConfig) → ConfigHasSpelling config → SpellsConfig (config_text config) config
config_read config h = record { has = h; is = refl }

event_read : (event : AbstractEvent) → EventHasSpelling event → SpellsEvent (event_text event) event
unfolding event_text
event_read (piece seat at bytes) h = by_digits seat at (flat_map byte_text bytes) bytes (record { numbers = h.0; is = refl }) (spells_written bytes h.1)
event_read (end_of_stream seat at) h = by_end seat at h refl
event_read (moment_alone at) h = by_tick at h refl

events_lack : (events : List AbstractEvent) → All EventHasSpelling events → All (LacksByte 10) (map event_text events)
events_lack [] h = All-nil (LacksByte 10)
events_lack (event ∷ events) h =
    All-cons (LacksByte 10) (event_text event) (map event_text events) (event_lacks event (All-head EventHasSpelling event events h)) (events_lack events (All-tail EventHasSpelling event events h))

events_read : (events : List AbstractEvent) → All EventHasSpelling events → AllZip SpellsEvent (map event_text events) events
events_read [] h = tt
events_read (event ∷ events) h = (event_read event (All-head EventHasSpelling event events h), events_read events (All-tail EventHasSpelling event events h))

script_read : (script : AbstractScript) → ScriptHasSpelling script → SpellsScript (script_text script) script
script_read script h = record {
  first = config_text script.config;
  others = map event_text script.events;
  lines = whole_lines (config_text script.config ∷ map event_text script.events) (All-cons (LacksByte 10) (config_text script.config) (map event_text script.events) (config_lacks script.config h.config) (events_lack script.events h.events));
  config = config_read script.config h.config;
  events = events_read script.events h.events;
}

pub written_read : WrittenIsRead
written_read = record {
  configs = config_read;
  events = event_read;
  config_lines = config_lacks;
  event_lines = event_lacks;
  scripts = script_read;
}

-- the line of a message
pub message_lacks : (seat at : ℕ) (said : List ℕ) → AreNumbers seat at → LacksByte 10 said → LacksByte 10 (fields_text (codes "m ") seat at said)
unfolding fields_text
message_lacks seat at said small lacks =
    fields_lack (codes "m ") (decimal seat) (decimal at) said (known (codes "m ") refl) (number_lacks seat small.0) (number_lacks at small.1) lacks

-- bytes with one more
pub small_more : (bytes : List ℕ) (i byte : ℕ) → i < length bytes → byte ≡ get_or bytes i byte → byte < 256 → All (λ one. one < 256) (take i bytes) → All (λ one. one < 256) (take (i + 1) bytes)
small_more bytes i byte within is small all = All-more (λ one. one < 256) bytes i byte within all (subst (λ one. one < 256) is small)
