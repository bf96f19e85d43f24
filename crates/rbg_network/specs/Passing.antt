-- What is passed on of the bytes that a player sends.
use Rattle.std.specs.Prelude.{◌≡◌, ℕ, ◌+◌, ◌-◌, ◌<◌, ◌==◌, List, [], ◌∷◌, length, take, map}
use Rattle.std.specs.List.{slice_split, join_with_byte}
use Rattle.rbg_match.specs.Limits.{message_limit}
use Rattle.rbg_serving.specs.declared.answer.Polled.{Polled}
use Rattle.rbg_serving.specs.declared.answer.Polled.TheVariants.{Got, Nothing, Ended, Failed}

-- how many bytes of a message are passed on: one more than it may have
abbrev pub most_passed : ℕ
most_passed = message_limit + 1

-- The first bytes of each of these texts. Of the first text `begun` bytes came before it.
abbrev pub first_bytes : (begun : ℕ) → List (List ℕ) → List (List ℕ)
first_bytes begun [] = []
first_bytes begun (text ∷ texts) = take (most_passed - begun) text ∷ map (take most_passed) texts

-- The texts between the zero bytes, as far as they are passed on.
abbrev pub passed_texts : (begun : ℕ) → List ℕ → List (List ℕ)
passed_texts begun bytes = first_bytes begun (slice_split (λ byte. byte == 0) bytes)

-- What is passed on of bytes that come: all zero bytes, and the first bytes of each message. Of the message at hand
-- `begun` bytes were passed on before.
abbrev pub passed : (begun : ℕ) → List ℕ → List ℕ
passed begun bytes = join_with_byte 0 (passed_texts begun bytes)

-- the length of the last of these texts, where `begun` bytes come before the first one
abbrev pub last_length : (begun : ℕ) → List (List ℕ) → ℕ
last_length begun [] = begun
last_length begun (text ∷ []) = begun + length text
last_length begun (text ∷ next ∷ texts) = last_length 0 (next ∷ texts)

-- how many bytes of the message at hand were passed on, after bytes that come
abbrev pub begun_after : (begun : ℕ) → List ℕ → ℕ
begun_after begun bytes = last_length begun (passed_texts begun bytes)

-- The answer of a poll gives these bytes: they stand at the start of the buffer. Where there are none, nothing came.
abbrev pub Gives : Polled → (buffer bytes : List ℕ) → Type 0
Gives (Got n) buffer bytes = (0 < n) × (n ≡ length bytes) × (take n buffer ≡ bytes)
Gives Nothing buffer bytes = bytes ≡ []
Gives Ended buffer bytes = ⊥
Gives Failed buffer bytes = ⊥
