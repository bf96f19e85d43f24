-- The move of the entry that the line tells.
use Rattle.rbg_view.proofs.PageReading.{entry_moves, no_move}
use Rattle.rbg_view.proofs.followed_record.move_in.Goals as goal

pub returns-in-Entry : goal.returns-in-Entry
returns-in-Entry c = λ reached says.
    entry_moves reached _ c.in-Entry.told c.pairs_of.result (rw c.in-Entry.is at c.pairs_of.ensures.found) (rw c.in-Entry.is at c.pairs_of.ensures.none) (rw c.in-Entry.is at says)

pub returns-in-Version : goal.returns-in-Version
returns-in-Version c = λ reached says. no_move reached _ _ tt (rw c.in-Version.is at says)

pub returns-in-Players : goal.returns-in-Players
returns-in-Players c = λ reached says. no_move reached _ _ tt (rw c.in-Players.is at says)

pub returns-in-Start : goal.returns-in-Start
returns-in-Start c = λ reached says. no_move reached _ _ tt (rw c.in-Start.is at says)
