-- A law of what is passed on.
use Rattle.std.specs.Prelude.{◌≡◌, ℕ, List, length}
use Rattle.rbg_match.specs.Limits.{message_limit}
use Rattle.rbg_wire.specs.Streams.{Rest, incomplete, dropping, cut, IsRest}
use Rattle.rbg_network.specs.Passing.{most_passed, passed, begun_after}

-- So many bytes of the message that is begun were passed on: all of them, or one more than a message may have.
abbrev pub AreBegun : (begun : ℕ) → Rest → Type 0
AreBegun begun (incomplete bytes) = begun ≡ length bytes
AreBegun begun dropping = begun ≡ most_passed

-- What is passed on completes the same items as the bytes that come, and leaves the same rest.
abbrev pub OthersChangeNothing : Type 0
OthersChangeNothing =
    (begun : ℕ) (rest : Rest) (bytes : List ℕ)
    → IsRest message_limit rest
    → AreBegun begun rest
    → (cut message_limit rest (passed begun bytes) ≡ cut message_limit rest bytes)
    × AreBegun (begun_after begun bytes) (cut message_limit rest bytes).rest
