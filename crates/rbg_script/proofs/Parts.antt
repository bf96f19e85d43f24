-- The fields of a line.
use Rattle.std.proofs.Common.{◌≡◌, ℕ, ◌<◌, ◌^◌, List, ◌∷◌, ◌++◌, decimal, codes, ap, sym, ◌∙◌, arith, append_assoc}
use Rattle.rbg_wire.proofs.ByteLemmas.{same_end}
use Rattle.rbg_wire.specs.Words.{BeginsWithNumber}
use Rattle.rbg_wire.proofs.FieldLemmas.{same_fields, with_rest}
use Rattle.rbg_script.specs.declared.config.ScriptConfig.{ScriptConfig}
use Rattle.rbg_script.specs.Config.{AreWithinLimits, SpellsConfig, config_text}
use Rattle.rbg_script.specs.Events.{HasFields, SpellsEvent, by_end, by_tick, end_of_stream, moment_alone, fields_text, end_text, tick_text}

-- a word, two fields with a space after each, and more
two_fields : (word a b rest : List ℕ) → word ++ a ++ codes " " ++ b ++ codes " " ++ rest ≡ word ++ (a ++ 32 ∷ (b ++ 32 ∷ rest))
two_fields word a b rest =
    append_assoc (word ++ a ++ codes " " ++ b) (codes " ") rest
    ∙ (append_assoc (word ++ a ++ codes " ") b (32 ∷ rest)
    ∙ (append_assoc (word ++ a) (codes " ") (b ++ 32 ∷ rest) ∙ append_assoc word a (32 ∷ (b ++ 32 ∷ rest))))

-- what is left after a first field, of a text of numbers
pub beyond_first : (fields rest more : List ℕ) (m n : ℕ) → BeginsWithNumber fields m rest → n < 2 ^ 64 → fields ≡ decimal n ++ 32 ∷ more → rest ≡ more
beyond_first fields rest more m n first second other = (same_fields fields rest more m n first.small second first.parts other).1

-- The fields of a line with a seat and a moment.
pub fields_shape : (word : List ℕ) (seat at : ℕ) (rest : List ℕ) → fields_text word seat at rest ≡ word ++ (decimal seat ++ 32 ∷ (decimal at ++ 32 ∷ rest))
unfolding fields_text
fields_shape word seat at rest = two_fields word (decimal seat) (decimal at) rest

pub after_word : (text word fields : List ℕ) (seat at : ℕ) (rest : List ℕ) → text ≡ word ++ fields → HasFields text word seat at rest → fields ≡ decimal seat ++ 32 ∷ (decimal at ++ 32 ∷ rest)
after_word text word fields seat at rest is h = same_end word fields (decimal seat ++ 32 ∷ (decimal at ++ 32 ∷ rest)) (sym is ∙ (h.is ∙ fields_shape word seat at rest))

pub has_fields : (text word fields after : List ℕ) (seat at : ℕ) (rest : List ℕ) → text ≡ word ++ fields → BeginsWithNumber fields seat after → BeginsWithNumber after at rest → HasFields text word seat at rest
has_fields text word fields after seat at rest is first second = record {
  numbers = (first.small, second.small);
  is = is ∙ (ap (λ f. word ++ f) (with_rest fields after _ seat first second.parts) ∙ sym (fields_shape word seat at rest));
}

pub one_fields : (text word : List ℕ) (s t a b : ℕ) (x y : List ℕ) → HasFields text word s a x → HasFields text word t b y → (s ≡ t) × (a ≡ b) × (x ≡ y)
one_fields text word s t a b x y h k =
    let fields : decimal s ++ 32 ∷ (decimal a ++ 32 ∷ x) ≡ decimal t ++ 32 ∷ (decimal b ++ 32 ∷ y) = same_end word _ _ (sym (fields_shape word s a x) ∙ (sym h.is ∙ (k.is ∙ fields_shape word t b y))) in
    let first = same_fields (decimal t ++ 32 ∷ (decimal b ++ 32 ∷ y)) (decimal a ++ 32 ∷ x) (decimal b ++ 32 ∷ y) s t h.numbers.0 k.numbers.0 (sym fields) (λ i. decimal t ++ 32 ∷ (decimal b ++ 32 ∷ y)) in
    let second = same_fields (decimal b ++ 32 ∷ y) x y a b h.numbers.1 k.numbers.1 (sym first.1) (λ i. decimal b ++ 32 ∷ y) in
    (first.0, second.0, second.1)

-- The end of a stream, and a moment.
pub end_shape : (seat at : ℕ) → end_text seat at ≡ codes "e " ++ (decimal seat ++ 32 ∷ decimal at)
unfolding end_text
end_shape seat at = append_assoc (codes "e " ++ decimal seat) (codes " ") (decimal at) ∙ append_assoc (codes "e ") (decimal seat) (32 ∷ decimal at)

pub tick_shape : (at : ℕ) → tick_text at ≡ codes "t " ++ decimal at
unfolding tick_text
tick_shape at = λ i. codes "t " ++ decimal at

-- The config.
pub config_shape : (config : ScriptConfig) → config_text config ≡ codes "config " ++ (decimal config.turn_ms ++ 32 ∷ (decimal config.refusals ++ 32 ∷ decimal config.now))
unfolding config_text
config_shape config = two_fields (codes "config ") (decimal config.turn_ms) (decimal config.refusals) (decimal config.now)

pub config_fields : (text fields : List ℕ) (config : ScriptConfig) → text ≡ codes "config " ++ fields → SpellsConfig text config → fields ≡ decimal config.turn_ms ++ 32 ∷ (decimal config.refusals ++ 32 ∷ decimal config.now)
config_fields text fields config is h = same_end (codes "config ") fields _ (sym is ∙ (h.is ∙ config_shape config))

pub turn_small : (turn refusals : ℕ) → AreWithinLimits turn refusals → turn < 2 ^ 64
turn_small turn refusals h = omega (arith, h.turn)

pub refusals_small : (turn refusals : ℕ) → AreWithinLimits turn refusals → refusals < 2 ^ 64
refusals_small turn refusals h = omega (arith, h.few)

pub spells_config : (text fields after last : List ℕ) (turn refusals now : ℕ) → AreWithinLimits turn refusals → now < 2 ^ 64 → text ≡ codes "config " ++ fields → BeginsWithNumber fields turn after → BeginsWithNumber after refusals last → last ≡ decimal now → SpellsConfig text (record { turn_ms = turn; refusals = refusals; now = now })
spells_config text fields after last turn refusals now within small is first second third =
    let config : ScriptConfig = record { turn_ms = turn; refusals = refusals; now = now } in
    let parts = with_rest fields after _ turn first (with_rest after last (decimal now) refusals second third) in
    record { has = (within, small); is = is ∙ (ap (λ f. codes "config " ++ f) parts ∙ sym (config_shape config)) }

-- The end of a stream, and a moment, in a text.
pub end_fields : (text fields : List ℕ) (seat at : ℕ) → text ≡ codes "e " ++ fields → text ≡ end_text seat at → fields ≡ decimal seat ++ 32 ∷ decimal at
end_fields text fields seat at is end = same_end (codes "e ") fields (decimal seat ++ 32 ∷ decimal at) (sym is ∙ (end ∙ end_shape seat at))

pub spells_end : (text fields last : List ℕ) (seat at : ℕ) → BeginsWithNumber fields seat last → at < 2 ^ 64 → text ≡ codes "e " ++ fields → last ≡ decimal at → SpellsEvent text (end_of_stream seat at)
spells_end text fields last seat at first second is more =
    by_end seat at (first.small, second) (is ∙ (ap (λ f. codes "e " ++ f) (with_rest fields last (decimal at) seat first more) ∙ sym (end_shape seat at)))

pub tick_field : (text field : List ℕ) (at : ℕ) → text ≡ codes "t " ++ field → text ≡ tick_text at → field ≡ decimal at
tick_field text field at is tick = same_end (codes "t ") field (decimal at) (sym is ∙ (tick ∙ tick_shape at))

pub spells_tick : (text field : List ℕ) (at : ℕ) → at < 2 ^ 64 → text ≡ codes "t " ++ field → field ≡ decimal at → SpellsEvent text (moment_alone at)
spells_tick text field at small is more = by_tick at small (is ∙ (ap (λ f. codes "t " ++ f) more ∙ sym (tick_shape at)))

-- the three numbers of a config's text
pub config_last : (text fields after last : List ℕ) (turn refusals : ℕ) (config : ScriptConfig) → text ≡ codes "config " ++ fields → BeginsWithNumber fields turn after → BeginsWithNumber after refusals last → SpellsConfig text config → (turn ≡ config.turn_ms) × (refusals ≡ config.refusals) × (last ≡ decimal config.now)
config_last text fields after last turn refusals config is first second h =
    let one = same_fields fields after (decimal config.refusals ++ 32 ∷ decimal config.now) turn config.turn_ms first.small (turn_small config.turn_ms config.refusals h.has.0) first.parts (config_fields text fields config is h) in
    let two = same_fields after last (decimal config.now) refusals config.refusals second.small (refusals_small config.turn_ms config.refusals h.has.0) second.parts one.1 in
    (one.0, two.0, two.1)

pub other_limits : (turn refusals t r : ℕ) → turn ≡ t → refusals ≡ r → AreWithinLimits t r → AreWithinLimits turn refusals
other_limits turn refusals t r same_turn same_refusals h = record {
  some_time = omega (arith, same_turn, h.some_time);
  turn = omega (arith, same_turn, h.turn);
  few = omega (arith, same_refusals, h.few);
}
