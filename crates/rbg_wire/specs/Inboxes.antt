-- What contracts see of an inbox and of its items.
use Rattle.std.specs.Prelude.{◌≡◌, ⊤}
use Rattle.std.specs.Borrow.{follows_so, MutBor, Fml}
use mathlib.Core.Option.{none}
use Rattle.rbg_wire.specs.contracts.inbox.Inbox.{the_row}
use Rattle.rbg_wire.specs.declared.inbox.Took.{Took}
use Rattle.rbg_wire.specs.declared.inbox.Took.TheVariants.{Message, TooLong}
use Rattle.rbg_wire.specs.Streams.{Item, complete, too_long, Stream, without_first}

-- the item that was taken, apart from where its bytes are in memory
abbrev pub item_of : Took → Item
item_of (Message bytes) = complete bytes.now
item_of TooLong = too_long

-- once the item is no longer borrowed, the stream is without its first item
abbrev pub LosesFirst : MutBor Stream → Fml
LosesFirst inbox =
    follows_so the_row the_row inbox.ghost_name none (λ _ _. ⊤) (λ after. after ≡ without_first inbox.now)
