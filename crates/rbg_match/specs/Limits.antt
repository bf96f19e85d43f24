-- The limits of a match. Those of its config are a script's: a turn, and the refusals that may be allowed.
use Rattle.std.specs.Prelude.{ℕ}
pub use Rattle.rbg_script.specs.Limits.{longest_turn, most_refusals}

-- a match has at most this many seats
abbrev pub most_seats : ℕ
most_seats = 8

-- a seat's message has at most this many bytes, without its zero byte
abbrev pub message_limit : ℕ
message_limit = 4096

-- The latest moment that is counted: an hour before the maximum number of 64 bits, so that each due moment is a number
-- of 64 bits.
abbrev pub latest_moment : ℕ
latest_moment = 18446744073705951615
