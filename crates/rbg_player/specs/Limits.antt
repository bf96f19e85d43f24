-- The limits of a player.
use Rattle.std.specs.Prelude.{ℕ}

-- the maximum number of bytes of a message, without its zero byte: the letter `G` and the longest text of a game
abbrev pub message_limit : ℕ
message_limit = 262145

-- the maximum number of legal moves among which a player chooses
abbrev pub most_choices : ℕ
most_choices = 64
