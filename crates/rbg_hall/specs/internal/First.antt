-- The first message of a line.
use Rattle.std.specs.Prelude.{◌≡◌, ◌+◌, ◌<◌, ◌-◌, ◌&&◌, ℕ, nat_le, List, [], ◌∷◌, Option, Some, None, if◌then◌else◌}
use Rattle.rbg_wire.specs.Streams.{Item, Stream}
use Rattle.rbg_hall.specs.declared.hearing.First.{First}
use Rattle.rbg_hall.specs.declared.hearing.First.TheVariants.{Nothing, Table, NoTable}
use Rattle.rbg_hall.specs.Requests.{requested}

-- the index of a table that is there
abbrev pub index_within : Option ℕ → (tables : ℕ) → Option ℕ
index_within (Some table) tables = if nat_le 1 table && nat_le table tables then Some (table - 1) else None
index_within None tables = None

-- The first item of a stream is taken, and this is what it asks for.
pub record IsTaken (old new : Stream) (item : Item) : Type 0 where
  pub others : List Item
  pub items : old.items ≡ item ∷ others
  pub left : new ≡ record old { items = others }

pub data IsFirst (tables : ℕ) (old new : Stream) : First → Type 0 where
  nothing : old.items ≡ [] → new ≡ old →
      IsFirst tables old new Nothing
  table : {index : ℕ} (item : Item) → IsTaken old new item → requested tables item ≡ Some (index + 1) → index < tables →
      IsFirst tables old new (Table index)
  no_table : (item : Item) → IsTaken old new item → requested tables item ≡ None →
      IsFirst tables old new NoTable
