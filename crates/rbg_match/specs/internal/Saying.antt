-- What a call that queues messages does to the outbox.
use Rattle.std.specs.Prelude.{◌≡◌, ℕ, List, Result, IfOk}
use Rattle.rbg_match.specs.Deliveries.{Delivery, delivered}

-- Messages were queued, and their bytes follow what each seat had. If the call succeeds, they are the messages of its
-- reply. After an error they may be others.
pub record QueuesMessages {T E : Type 0} (old new : List (List ℕ)) (result : Result T E)
    (IsToSay : T → List Delivery → Type 0) : Type 0 where
  pub outgoing : List Delivery
  pub beyond : new ≡ delivered old outgoing
  pub whole : IfOk result (λ value. IsToSay value outgoing)
