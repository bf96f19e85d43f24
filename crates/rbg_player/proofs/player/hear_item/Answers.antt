use Rattle.std.proofs.Common.{refl}
use Rattle.rbg_player.specs.Streams.{overlong, unreadable, too_many}
use Rattle.rbg_player.proofs.HearingLemmas.{heard_item, faulty_item}
use Rattle.rbg_player.proofs.player.hear_item.Goals as goal

pub returns-in_default-clause-fault : goal.returns-in_default-clause-fault
returns-in_default-clause-fault g c = rw c.in_default.is overlong

pub returns-in-Ok-clause-hears : goal.returns-in-Ok-clause-hears
returns-in-Ok-clause-hears g c = rw c.in-Message.is (heard_item _ _ _ _ _ _ _ c.in-Ok.ensures.found c.hear.ensures.ok)

pub returns-in-Ok-clause-fault : goal.returns-in-Ok-clause-fault
returns-in-Ok-clause-fault g c = rw c.in-Message.is (faulty_item _ _ _ _ c.in-Ok.ensures.found c.hear.ensures.fault)

pub returns-in-Err-Malformed-clause-fault : goal.returns-in-Err-Malformed-clause-fault
returns-in-Err-Malformed-clause-fault g c =
    let malformed = rw c.in-Err-Malformed.field-0-is at c.in-Err-Malformed.ensures.malformed in
    rw c.in-Message.is (unreadable (malformed.0 refl))

pub returns-in-Err-TooManyPairs-clause-fault : goal.returns-in-Err-TooManyPairs-clause-fault
returns-in-Err-TooManyPairs-clause-fault g c =
    let long = rw c.in-Err-TooManyPairs.field-0-is at c.in-Err-TooManyPairs.ensures.too_many in
    rw c.in-Message.is (too_many (long.0 refl))
