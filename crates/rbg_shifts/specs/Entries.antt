-- Where the targets of an entry are.
use Rattle.std.specs.Prelude.{ℕ, ◌+◌, ◌≤◌}
use Rattle.rbg_shifts.specs.declared.table.Entry.{Entry}

-- Where they end.
abbrev pub end_of : Entry → ℕ
end_of e = e.start + e.many

-- The entry is of a list of that many targets.
pub record IsWithin (size : ℕ) (e : Entry) : Type 0 where
  pub ends : end_of e ≤ size
