-- An item as a piece of its own.
use Rattle.std.specs.Prelude.{◌≡◌, ℕ, ◌+◌, List, [], ◌∷◌, ◌++◌, All, replicate}
use Rattle.rbg_wire.specs.Streams.{Item, complete, too_long, Rest, incomplete, cut, IsRest}

-- the byte of `x`, of which the piece of a message that is too long is made
abbrev pub filler : ℕ
filler = 120

-- The bytes that complete this item alone: the message with its zero byte, or one byte more than the limit with a zero
-- byte.
abbrev pub whole_item : (limit : ℕ) → Item → List ℕ
whole_item limit (complete text) = text ++ 0 ∷ []
whole_item limit too_long = replicate (limit + 1) filler ++ 0 ∷ []

-- The item is one of a stream with that limit, and its piece completes it alone: nothing is left of it.
abbrev pub IsCutAlone : (limit : ℕ) → Item → Type 0
IsCutAlone limit item =
    cut limit (incomplete []) (whole_item limit item) ≡ record { items = item ∷ []; rest = incomplete [] }

-- Each item of a stream, handed on as a piece of its own, completes itself alone.
abbrev pub ItemsAreCutAgain : Type 0
ItemsAreCutAgain =
    (limit : ℕ) (rest : Rest) (bytes : List ℕ)
    → IsRest limit rest
    → All (IsCutAlone limit) (cut limit rest bytes).items
