-- Each text spells one thing at most.
use Rattle.std.specs.Global.{Vec}
use Rattle.rbg_base.proofs.Common.{◌≡◌, ◌≢◌, ℕ, ◌<◌, ◌^◌, Option, Some, None, IfSome, IfNone, Result, Ok, Err, IfOk, List, [], ◌∷◌, ◌++◌, decimal, codes, ap, sym, ◌∙◌, refl, subst, arith, IsSomeAnd, decimal_injective}
use Rattle.rbg_wire.proofs.ByteLemmas.{same_end}
use Rattle.rbg_wire.proofs.FieldLemmas.{same_fields}
use Rattle.rbg_script.specs.declared.config.ScriptConfig.{ScriptConfig}
use Rattle.rbg_script.specs.declared.event.ScriptMessage.{ScriptMessage}
use Rattle.rbg_script.specs.declared.event.Event.{Event}
use Rattle.rbg_script.specs.Config.{SpellsConfig}
use Rattle.rbg_script.specs.Events.{AbstractEvent, piece, end_of_stream, moment_alone, AreNumbers, HasFields, SpellsBytes, SpellsEvent, SpellsMessage, by_message, by_digits, by_end, by_tick, end_text, tick_text, owned_event_of}
use Rattle.rbg_script.specs.Laws.{SpellingsAreApart}
use Rattle.rbg_script.proofs.Digits.{one_bytes}
use Rattle.rbg_script.proofs.Parts.{one_fields, fields_shape, end_shape, tick_shape, config_shape, turn_small, refusals_small}

-- A config.
pub one_config : (text : List ℕ) (a b : ScriptConfig) → SpellsConfig text a → SpellsConfig text b → a ≡ b
one_config text a b h k =
    let fields : decimal a.turn_ms ++ 32 ∷ (decimal a.refusals ++ 32 ∷ decimal a.now) ≡ decimal b.turn_ms ++ 32 ∷ (decimal b.refusals ++ 32 ∷ decimal b.now) = same_end (codes "config ") _ _ (sym (config_shape a) ∙ (sym h.is ∙ (k.is ∙ config_shape b))) in
    let first = same_fields (decimal a.turn_ms ++ 32 ∷ (decimal a.refusals ++ 32 ∷ decimal a.now)) (decimal a.refusals ++ 32 ∷ decimal a.now) (decimal b.refusals ++ 32 ∷ decimal b.now) a.turn_ms b.turn_ms (turn_small a.turn_ms a.refusals h.has.0) (turn_small b.turn_ms b.refusals k.has.0) refl fields in
    let second = same_fields (decimal a.refusals ++ 32 ∷ decimal a.now) (decimal a.now) (decimal b.now) a.refusals b.refusals (refusals_small a.turn_ms a.refusals h.has.0) (refusals_small b.turn_ms b.refusals k.has.0) refl first.1 in
    let now = decimal_injective a.now b.now h.has.1 k.has.1 second.1 in
    λ i. record { turn_ms = first.0 i; refusals = second.0 i; now = now i }

-- the first byte of a text
abbrev Begins : ℕ → List ℕ → Type 0
Begins byte text = (rest : List ℕ) × (text ≡ byte ∷ rest)

apart : (a b : ℕ) → a ≢ b → (text : List ℕ) → Begins a text → Begins b text → ⊥
apart a b other text h k = let same : a ∷ h.0 ≡ b ∷ k.0 = sym h.1 ∙ k.1 in other (cc)

message_begins : (text : List ℕ) (seat at : ℕ) (said : List ℕ) → HasFields text (codes "m ") seat at said → Begins 109 text
message_begins text seat at said h = (32 ∷ (decimal seat ++ 32 ∷ (decimal at ++ 32 ∷ said)), h.is ∙ fields_shape (codes "m ") seat at said)

digits_begin : (text : List ℕ) (seat at : ℕ) (digits : List ℕ) → HasFields text (codes "p ") seat at digits → Begins 112 text
digits_begin text seat at digits h = (32 ∷ (decimal seat ++ 32 ∷ (decimal at ++ 32 ∷ digits)), h.is ∙ fields_shape (codes "p ") seat at digits)

end_begins : (text : List ℕ) (seat at : ℕ) → text ≡ end_text seat at → Begins 101 text
end_begins text seat at is = (32 ∷ (decimal seat ++ 32 ∷ decimal at), is ∙ end_shape seat at)

tick_begins : (text : List ℕ) (at : ℕ) → text ≡ tick_text at → Begins 116 text
tick_begins text at is = (32 ∷ decimal at, is ∙ tick_shape at)

config_begins : (text : List ℕ) (config : ScriptConfig) → SpellsConfig text config → Begins 99 text
config_begins text config h = (codes "onfig " ++ (decimal config.turn_ms ++ 32 ∷ (decimal config.refusals ++ 32 ∷ decimal config.now)), h.is ∙ config_shape config)

-- An event.
one_end : (text : List ℕ) (s a t b : ℕ) → AreNumbers s a → AreNumbers t b → text ≡ end_text s a → text ≡ end_text t b → (s ≡ t) × (a ≡ b)
one_end text s a t b m n h k =
    let fields : decimal s ++ 32 ∷ decimal a ≡ decimal t ++ 32 ∷ decimal b = same_end (codes "e ") _ _ (sym (end_shape s a) ∙ (sym h ∙ (k ∙ end_shape t b))) in
    let first = same_fields (decimal s ++ 32 ∷ decimal a) (decimal a) (decimal b) s t m.0 n.0 refl fields in
    (first.0, decimal_injective a b m.1 n.1 first.1)

one_tick : (text : List ℕ) (a b : ℕ) → a < 2 ^ 64 → b < 2 ^ 64 → text ≡ tick_text a → text ≡ tick_text b → a ≡ b
one_tick text a b m n h k = decimal_injective a b m n (same_end (codes "t ") (decimal a) (decimal b) (sym (tick_shape a) ∙ (sym h ∙ (k ∙ tick_shape b))))

one_digits : (text : List ℕ) (s a t b : ℕ) (x y p q : List ℕ) → HasFields text (codes "p ") s a x → HasFields text (codes "p ") t b y → SpellsBytes x p → SpellsBytes y q → piece s a p ≡ piece t b q
one_digits text s a t b x y p q h k m n =
    let parts = one_fields text (codes "p ") s t a b x y h k in
    let bytes = one_bytes y p q (subst (λ digits. SpellsBytes digits p) parts.2 m) n in
    λ i. piece (parts.0 i) (parts.1 i) (bytes i)

pub one_event : (text : List ℕ) (a b : AbstractEvent) → SpellsEvent text a → SpellsEvent text b → a ≡ b
one_event text _ _ (by_message s a x h) (by_message t b y k) =
    let parts = one_fields text (codes "m ") s t a b x y h k in
    λ i. piece (parts.0 i) (parts.1 i) (parts.2 i ++ 0 ∷ [])
one_event text _ _ (by_message s a x h) (by_digits t b y q k n) = absurd (apart 109 112 (λ e. absurd (omega arith)) text (message_begins text s a x h) (digits_begin text t b y k))
one_event text _ _ (by_message s a x h) (by_end t b n k) = absurd (apart 109 101 (λ e. absurd (omega arith)) text (message_begins text s a x h) (end_begins text t b k))
one_event text _ _ (by_message s a x h) (by_tick b n k) = absurd (apart 109 116 (λ e. absurd (omega arith)) text (message_begins text s a x h) (tick_begins text b k))
one_event text _ _ (by_digits s a x p h m) (by_message t b y k) = absurd (apart 112 109 (λ e. absurd (omega arith)) text (digits_begin text s a x h) (message_begins text t b y k))
one_event text _ _ (by_digits s a x p h m) (by_digits t b y q k n) = one_digits text s a t b x y p q h k m n
one_event text _ _ (by_digits s a x p h m) (by_end t b n k) = absurd (apart 112 101 (λ e. absurd (omega arith)) text (digits_begin text s a x h) (end_begins text t b k))
one_event text _ _ (by_digits s a x p h m) (by_tick b n k) = absurd (apart 112 116 (λ e. absurd (omega arith)) text (digits_begin text s a x h) (tick_begins text b k))
one_event text _ _ (by_end s a m h) (by_message t b y k) = absurd (apart 101 109 (λ e. absurd (omega arith)) text (end_begins text s a h) (message_begins text t b y k))
one_event text _ _ (by_end s a m h) (by_digits t b y q k n) = absurd (apart 101 112 (λ e. absurd (omega arith)) text (end_begins text s a h) (digits_begin text t b y k))
one_event text _ _ (by_end s a m h) (by_end t b n k) = let parts = one_end text s a t b m n h k in λ i. end_of_stream (parts.0 i) (parts.1 i)
one_event text _ _ (by_end s a m h) (by_tick b n k) = absurd (apart 101 116 (λ e. absurd (omega arith)) text (end_begins text s a h) (tick_begins text b k))
one_event text _ _ (by_tick a m h) (by_message t b y k) = absurd (apart 116 109 (λ e. absurd (omega arith)) text (tick_begins text a h) (message_begins text t b y k))
one_event text _ _ (by_tick a m h) (by_digits t b y q k n) = absurd (apart 116 112 (λ e. absurd (omega arith)) text (tick_begins text a h) (digits_begin text t b y k))
one_event text _ _ (by_tick a m h) (by_end t b n k) = absurd (apart 116 101 (λ e. absurd (omega arith)) text (tick_begins text a h) (end_begins text t b k))
one_event text _ _ (by_tick a m h) (by_tick b n k) = ap moment_alone (one_tick text a b m n h k)

no_kinds : (text : List ℕ) (config : ScriptConfig) (event : AbstractEvent) → SpellsConfig text config → SpellsEvent text event → ⊥
no_kinds text config _ c (by_message s a x h) = apart 99 109 (λ e. absurd (omega arith)) text (config_begins text config c) (message_begins text s a x h)
no_kinds text config _ c (by_digits s a x p h m) = apart 99 112 (λ e. absurd (omega arith)) text (config_begins text config c) (digits_begin text s a x h)
no_kinds text config _ c (by_end s a m h) = apart 99 101 (λ e. absurd (omega arith)) text (config_begins text config c) (end_begins text s a h)
no_kinds text config _ c (by_tick a m h) = apart 99 116 (λ e. absurd (omega arith)) text (config_begins text config c) (tick_begins text a h)

pub spellings_apart : SpellingsAreApart
spellings_apart = record { configs = one_config; events = one_event; kinds = no_kinds; bytes = one_bytes }

-- a config's line is not empty
pub config_some : (line : List ℕ) (config : ScriptConfig) → SpellsConfig line config → line ≡ [] → ⊥
config_some line config h empty =
    let begins = config_begins line config h in
    let same : 99 ∷ begins.0 ≡ [] = sym begins.1 ∙ empty in
    cc

pub message_only : (text : List ℕ) (answer : Option ScriptMessage) → IfSome answer (SpellsMessage text) → IfNone answer ((seat at : ℕ) (said : List ℕ) → HasFields text (codes "m ") seat at said → ⊥) → (seat at : ℕ) (said : List ℕ) → HasFields text (codes "m ") seat at said → IsSomeAnd answer (λ message. (message.seat ≡ seat) × (message.at ≡ at) × (message.text.now ≡ said))
message_only text (Some message) h none seat at said spelled = one_fields text (codes "m ") message.seat seat message.at at message.text.now said h spelled
message_only text None h none seat at said spelled = absurd (none seat at said spelled)

pub event_only : {E : Type 0} (text : List ℕ) (answer : Result (Option (Event (Vec ℕ))) E) → IfOk answer (λ read. IfSome read (λ event. SpellsEvent text (owned_event_of event))) → IfOk answer (λ read. IfNone read ((event : AbstractEvent) → SpellsEvent text event → ⊥)) → (event : AbstractEvent) → SpellsEvent text event → IfOk answer (λ read. IsSomeAnd read (λ found. owned_event_of found ≡ event))
event_only text (Ok (Some found)) h none event spelled = one_event text (owned_event_of found) event h spelled
event_only text (Ok None) h none event spelled = absurd (none event spelled)
event_only text (Err error) h none event spelled = tt

-- what an option has, and what is left if it has nothing
pub some_here : {T : Type 0} (P : T → Type 0) (answer : Option T) (x : T) → answer ≡ Some x → IfSome answer P → P x
some_here P answer x is h = subst (λ a. IfSome a P) is h

pub none_here : {T P : Type 0} (answer : Option T) → answer ≡ None → IfNone answer P → P
none_here {P = P} answer is h = subst (λ a. IfNone a P) is h

pub no_event_here : (text : List ℕ) (answer : Option (Event (Vec ℕ))) → answer ≡ None → ((event : AbstractEvent) → SpellsEvent text event → IsSomeAnd answer (λ found. owned_event_of found ≡ event)) → (event : AbstractEvent) → SpellsEvent text event → ⊥
no_event_here text answer is only event spelled = subst (λ a. IsSomeAnd a (λ found. owned_event_of found ≡ event)) is (only event spelled)

-- digits that spell no bytes, in a line that has them
pub bad_digits : (text : List ℕ) (seat at : ℕ) (rest : List ℕ) → HasFields text (codes "p ") seat at rest → ((bytes : List ℕ) → SpellsBytes rest bytes → ⊥) → (s a : ℕ) (digits bytes : List ℕ) → HasFields text (codes "p ") s a digits → SpellsBytes digits bytes → ⊥
bad_digits text seat at rest h none s a digits bytes k spelled =
    none bytes (subst (λ d. SpellsBytes d bytes) (one_fields text (codes "p ") s seat a at digits rest k h).2 spelled)

pub no_config_here : (text : List ℕ) (answer : Option ScriptConfig) → answer ≡ None → ((config : ScriptConfig) → SpellsConfig text config → answer ≡ Some config) → (config : ScriptConfig) → SpellsConfig text config → ⊥
no_config_here text answer is only config spelled = let apart : None ≡ Some config = sym is ∙ only config spelled in cc
