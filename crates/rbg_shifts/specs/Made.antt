-- The leaps of a game as they were made.
use Rattle.std.specs.Prelude.{ℕ, ◌+◌, ◌*◌, ◌<◌, ◌↔◌, List, length, slice_range, slice_index_or, false, IsTrue}
use Rattle.rbg_rules.specs.Meaning.{IsStart, AbstractGame, Start}
use Rattle.rbg_auto.specs.declared.steps.Expr.{Expr}
use Rattle.rbg_auto.specs.declared.steps.Expr.TheVariants.{Rules, Inside}
use Rattle.rbg_shifts.specs.declared.asking.Leaps.{Leaps}
use Rattle.rbg_shifts.specs.declared.origin.Origin.{Origin}
use Rattle.rbg_shifts.specs.declared.origin.Origin.TheVariants.{Begin, After}
use Rattle.rbg_shifts.specs.declared.table.Entry.{Entry}
use Rattle.rbg_shifts.specs.declared.target.Target.{Target}
use Rattle.rbg_shifts.specs.Asked.{AreTargetsFrom}
use Rattle.rbg_shifts.specs.Entries.{end_of, IsWithin}
use Rattle.rbg_shifts.specs.Leaps.{EndsAcross}
use Rattle.rbg_shifts.specs.Origin.{start_of}

-- The entry is that of the leaps from f and vertex v: its targets are theirs, and it records whether a word may end.
pub record IsEntry (game : AbstractGame) (f : Start) (v : ℕ) (targets : List Target) (e : Entry) : Type 0 where
  pub within : IsWithin (length targets) e
  pub are : AreTargetsFrom game f v (slice_range targets e.start (end_of e))
  pub ends : IsTrue e.ends ↔ EndsAcross game f v

abbrev pub no_entry : Entry
no_entry = record { start = 0; many = 0; ends = false }

-- The entry of a vertex in a row of entries, if each row has one for each vertex.
abbrev pub entry_in : List Entry → (vertices row v : ℕ) → Entry
entry_in entries vertices row v = slice_index_or entries (row * vertices + v) no_entry

-- The node at the beginning of an expression.
abbrev pub node_of : Leaps → Expr → ℕ
node_of leaps Rules = leaps.rules
node_of leaps (Inside p) = slice_index_or leaps.insides.items p 0

-- The entry of a place in the rules and a vertex.
abbrev pub entry_of : Leaps → Origin → (v : ℕ) → Entry
entry_of leaps (Begin expr) v = entry_in leaps.entries.items leaps.vertices (node_of leaps expr) v
entry_of leaps (After p) v = entry_in leaps.afters.items leaps.vertices p v

-- These are the leaps of the game: there is their entry for each point in the rules and each vertex.
pub record AreLeapsOf (game : AbstractGame) (leaps : Leaps) : Type 0 where
  pub entries :
      (origin : Origin) (v : ℕ) → v < length game.board.first → IsStart game.rules (start_of origin) →
      IsEntry game (start_of origin) v leaps.targets.items (entry_of leaps origin v)
