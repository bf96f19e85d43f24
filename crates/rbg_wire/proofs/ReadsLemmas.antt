-- What a reader returns, from what the text spells.
use Rattle.std.proofs.Common.{◌≡◌, Option, Some, None, IfNone, IfSome, ap}
use Rattle.rbg_wire.specs.Reads.{ReadsOnly}

pub reads_found : {T : Type 0} {Spells : T → Type 0} → ((a b : T) → Spells a → Spells b → a ≡ b) → {x : T} → Spells x → ReadsOnly Spells (Some x)
reads_found one {x} spelled = record { found = spelled; only = λ y h. ap Some (one x y spelled h) }

pub reads_none : {T : Type 0} {Spells : T → Type 0} → ((x : T) → Spells x → ⊥) → ReadsOnly Spells None
reads_none none = record { found = tt; only = λ x h. absurd (none x h) }

-- the text that is read as nothing spells nothing
pub nothing_read : {T : Type 0} {Spells : T → Type 0} → ReadsOnly Spells None → (x : T) → Spells x → ⊥
nothing_read {T} reads x h = let apart : None ≡ Some x = reads.only x h in cc

-- the last way to read a text
pub reads_last : {T N : Type 0} {Spells : T → Type 0} → ((a b : T) → Spells a → Spells b → a ≡ b) → (answer : Option T) → IfSome answer Spells → IfNone answer N → (N → (x : T) → Spells x → ⊥) → ReadsOnly Spells answer
reads_last one (Some found) h none lift = reads_found one h
reads_last one None h none lift = reads_none (lift none)
