-- What a table records while it is made: whether it is right so far, and whether anything is missing.
use Rattle.std.specs.Prelude.{◌≡◌, ◌≢◌, ℕ, ◌+◌, ◌*◌, ◌<◌, ◌≤◌, ◌⊎◌, List, length, slice_index_or, Bool, true, false, IsTrue, All, Contains}
use Rattle.rbg_rules.specs.Meaning.{IsGame, AbstractGame}
use Rattle.rbg_shifts.specs.declared.lists.Lists.{Lists}
use Rattle.rbg_shifts.specs.declared.table.Entry.{Entry}
use Rattle.rbg_shifts.specs.declared.table.Table.{Table}
use Rattle.rbg_shifts.specs.declared.target.Target.{Target}
use Rattle.rbg_shifts.specs.Asked.{IsEndOf}
use Rattle.rbg_shifts.specs.Entries.{end_of, IsWithin}
use Rattle.rbg_shifts.specs.Leaps.{IsShiftAt}
use Rattle.rbg_shifts.specs.Limits.{row_words}
use Rattle.rbg_shifts.specs.Made.{entry_in, no_entry}
use Rattle.rbg_shifts.specs.internal.Interned.{list_at, may_end_at, AreListsOf}
use Rattle.rbg_shifts.specs.internal.Steps.{Comes, IsLeapBy, EndsBy}

abbrev pub no_target : Target
no_target = record { position = 0; column = 0; word = 0 }

abbrev pub target_at : List Target → ℕ → Target
target_at targets i = slice_index_or targets i no_target

-- One of the targets between two places has position j at vertex u.
pub record HasEnd (targets : List Target) (from to j u : ℕ) : Type 0 where
  pub at : ℕ
  pub beyond : from ≤ at
  pub before : at < to
  pub is : IsEndOf (target_at targets at) j u

-- The target has a vertex, and none that isn't one of these. It is in a column of the board.
pub record IsTargetOf (Leap : ℕ → ℕ → Type 0) (columns : ℕ) (t : Target) : Type 0 where
  pub only : (p u : ℕ) → IsEndOf t p u → Leap p u
  pub some : (u : ℕ) × IsEndOf t t.position u
  pub column : t.column < columns

-- Between two places the targets have nothing but these leaps.
pub record AreSound (Leap : ℕ → ℕ → Type 0) (columns : ℕ) (targets : List Target) (from to : ℕ) : Type 0 where
  pub each : (i : ℕ) → from ≤ i → i < to → IsTargetOf Leap columns (target_at targets i)

-- The target has nothing but leaps from vertex v, at a node with that list.
abbrev pub IsTargetBy : AbstractGame → (list : List ℕ) → (may_end : Bool) → (v : ℕ) → Target → Type 0
IsTargetBy game list may_end v = IsTargetOf (IsLeapBy game list may_end v) (row_words game)

-- So do those between two places.
abbrev pub AreSoundBy : AbstractGame → (list : List ℕ) → (may_end : Bool) → (v : ℕ) → List Target → (from to : ℕ) → Type 0
AreSoundBy game list may_end v = AreSound (IsLeapBy game list may_end v) (row_words game)

-- The entry of a node and a vertex.
abbrev pub entry_at : Table → (node v : ℕ) → Entry
entry_at table node v = entry_in table.entries.items table.vertices node v

-- The targets of an entry have position j at vertex u.
abbrev pub HasEndAt : Table → Entry → (j u : ℕ) → Type 0
HasEndAt table e = HasEnd table.targets.items e.start (end_of e)

-- The entry has nothing but leaps from vertex v, at a node with that list.
pub record IsSoundEntry (game : AbstractGame) (list : List ℕ) (may_end : Bool) (v : ℕ) (table : Table) (e : Entry) : Type 0 where
  pub within : IsWithin (length table.targets.items) e
  pub targets : AreSoundBy game list may_end v table.targets.items e.start (end_of e)
  pub ends : IsTrue e.ends → EndsBy game list may_end v

-- The table is of the game's board and of the nodes.
pub record IsLaidOut (game : AbstractGame) (lists : Lists) (table : Table) : Type 0 where
  pub vertices : table.vertices ≡ length game.board.first
  pub size : length table.entries.items ≡ length lists.interner.nodes.items * table.vertices

-- The table has nothing but leaps.
pub record IsSoundTable (game : AbstractGame) (lists : Lists) (table : Table) : Type 0 where
  pub laid_out : IsLaidOut game lists table
  pub sound :
      (n v : ℕ) → n < length lists.interner.nodes.items → v < table.vertices →
      IsSoundEntry game (list_at lists.interner n) (may_end_at lists.interner n) v table (entry_at table n v)

-- What every filling of a game's table starts from: the nodes are those of its rules, and nothing wrong is recorded.
abbrev pub IsRightSoFar : AbstractGame → Lists → Table → Type 0
IsRightSoFar game lists table = record {
  lawful : IsGame game;
  nodes : AreListsOf game.rules lists;
  sound : IsSoundTable game lists table;
}

-- .. and this is one of the nodes.
pub record IsRightAt (game : AbstractGame) (lists : Lists) (table : Table) (n : ℕ) : Type 0 where
  pub right : IsRightSoFar game lists table
  pub node : n < length lists.interner.nodes.items

-- What an entry records, the targets between two places record too, and `may_end` is set if the entry lets a word end.
pub record IsUnder (table : Table) (one : Entry) (from to : ℕ) (may_end : Bool) : Type 0 where
  pub tells : (j u : ℕ) → HasEndAt table one j u → HasEnd table.targets.items from to j u
  pub ends : IsTrue one.ends → IsTrue may_end

-- The targets between two places record what one step by position p leads to from vertex v: p itself if it is no shift,
-- and all that is recorded at the vertex to which a shift leads.
pub record RecordsStep
    (game : AbstractGame) (lists : Lists) (table : Table) (from to : ℕ) (may_end : Bool) (v p : ℕ)
    : Type 0
  where
    pub plain : ¬ IsShiftAt game.rules p → HasEnd table.targets.items from to p v
    pub is_vertex : (w : ℕ) → IsShiftAt game.rules p → Comes game v p w → w < table.vertices
    pub shift :
        (w : ℕ) → IsShiftAt game.rules p → Comes game v p w →
        IsUnder table (entry_at table (slice_index_or lists.afters.items p 0) w) from to may_end

-- The entry records it.
abbrev pub RecordsStepAt : AbstractGame → Lists → Table → Entry → (v p : ℕ) → Type 0
RecordsStepAt game lists table e = RecordsStep game lists table e.start (end_of e) e.ends

-- All targets from a place on record it.
abbrev pub RecordsStepFrom : AbstractGame → Lists → Table → (start : ℕ) → Bool → (v p : ℕ) → Type 0
RecordsStepFrom game lists table start = RecordsStep game lists table start (length table.targets.items)

-- Nothing is missing in the targets between two places, at a node and a vertex.
pub record IsWhole
    (game : AbstractGame) (lists : Lists) (table : Table) (n v from to : ℕ) (may_end : Bool)
    : Type 0
  where
    pub ends : IsTrue (may_end_at lists.interner n) → IsTrue may_end
    pub told : All (RecordsStep game lists table from to may_end v) (list_at lists.interner n)

-- .. in all targets from a place on.
abbrev pub IsWholeFrom : AbstractGame → Lists → Table → (start n v : ℕ) → Bool → Type 0
IsWholeFrom game lists table start n v = IsWhole game lists table n v start (length table.targets.items)

-- Nothing is missing in the entry of a node and a vertex.
abbrev pub IsClosed : AbstractGame → Lists → Table → (n v : ℕ) → Type 0
IsClosed game lists table n v =
    IsWhole game lists table n v (entry_at table n v).start (end_of (entry_at table n v)) (entry_at table n v).ends

-- The targets before a place stay as they are, and none is taken away.
pub record Keeps (place : ℕ) (old new : List Target) : Type 0 where
  pub size : length old ≤ length new
  pub same : (i : ℕ) → i < place → target_at new i ≡ target_at old i

-- Targets from a place on were added or changed, and no more.
pub record Grows (place : ℕ) (old new : Table) : Type 0 where
  pub vertices : new.vertices ≡ old.vertices
  pub are_entries : new.entries.items ≡ old.entries.items
  pub targets : Keeps place old.targets.items new.targets.items

-- What is gathered at a node and a vertex: targets from a place on that have nothing but leaps.
abbrev pub IsGathered : AbstractGame → Lists → Table → (start n v : ℕ) → Type 0
IsGathered game lists table start n v =
    AreSoundBy game (list_at lists.interner n) (may_end_at lists.interner n) v table.targets.items start (length table.targets.items)

-- An entry of a node and a vertex was put in its place, and nothing else changed.
pub record Shares (old new : Table) (n v : ℕ) (e : Entry) : Type 0 where
  pub vertices : new.vertices ≡ old.vertices
  pub are_targets : new.targets.items ≡ old.targets.items
  pub size : length new.entries.items ≡ length old.entries.items
  pub here : entry_at new n v ≡ e
  pub others :
      (i : ℕ) → i ≢ n * old.vertices + v →
      slice_index_or new.entries.items i no_entry ≡ slice_index_or old.entries.items i no_entry

-- The targets from a place on record all that they recorded before.
pub record KeepsEnds (start : ℕ) (old new : List Target) : Type 0 where
  pub tells : (j u : ℕ) → HasEnd old start (length old) j u → HasEnd new start (length new) j u

-- The table still records, from a place on, all that it recorded before.
abbrev pub KeepsRecorded : (start : ℕ) → Table → Table → Type 0
KeepsRecorded start old new = KeepsEnds start old.targets.items new.targets.items

-- A target was added to those from a place on.
pub record AddsTarget (start : ℕ) (old new : List Target) (t : Target) : Type 0 where
  pub sound :
      (game : AbstractGame) (list : List ℕ) (may_end : Bool) (v : ℕ) →
      AreSoundBy game list may_end v old start (length old) → IsTargetBy game list may_end v t →
      AreSoundBy game list may_end v new start (length new)
  pub kept : KeepsEnds start old new
  pub has : (j u : ℕ) → IsEndOf t j u → HasEnd new start (length new) j u

-- The targets between two places were added to those from `start` on, up to a place.
pub record AddsUpTo (start : ℕ) (old new : List Target) (from to place : ℕ) : Type 0 where
  pub keeps : Keeps start old new
  pub sound :
      (game : AbstractGame) (list : List ℕ) (may_end : Bool) (v : ℕ) →
      AreSoundBy game list may_end v old start (length old) →
      AreSoundBy game list may_end v old from to →
      AreSoundBy game list may_end v new start (length new)
  pub kept : KeepsEnds start old new
  pub has : (j u : ℕ) → HasEnd old from place j u → HasEnd new start (length new) j u

-- All of them were added.
abbrev pub AddsAll : (start : ℕ) → (old new : List Target) → (from to : ℕ) → Type 0
AddsAll start old new from to = AddsUpTo start old new from to to

-- No shift of the node's list leads to the node again.
abbrev pub LeadsAway : AbstractGame → Lists → (n : ℕ) → Type 0
LeadsAway game lists n =
    (p : ℕ) → Contains (list_at lists.interner n) p → IsShiftAt game.rules p → slice_index_or lists.afters.items p 0 ≢ n

-- Position p leads from no vertex to a later one.
abbrev pub StepsBack : AbstractGame → (p : ℕ) → Type 0
StepsBack game p = (v w : ℕ) → v < length game.board.first → Comes game v p w → w ≤ v

-- Position p leads from no vertex to an earlier one.
abbrev pub StepsForth : AbstractGame → (p : ℕ) → Type 0
StepsForth game p = (v w : ℕ) → v < length game.board.first → Comes game v p w → v ≤ w

-- If a shift of the node's list leads to the node again, it leads to no later vertex.
abbrev pub LeadsBack : AbstractGame → Lists → (n : ℕ) → Type 0
LeadsBack game lists n =
    (p : ℕ) → Contains (list_at lists.interner n) p → IsShiftAt game.rules p →
    slice_index_or lists.afters.items p 0 ≡ n → StepsBack game p

-- If a shift of the node's list leads to the node again, it leads to no earlier vertex.
abbrev pub LeadsForth : AbstractGame → Lists → (n : ℕ) → Type 0
LeadsForth game lists n =
    (p : ℕ) → Contains (list_at lists.interner n) p → IsShiftAt game.rules p →
    slice_index_or lists.afters.items p 0 ≡ n → StepsForth game p

-- Shifts lead from the node to no later vertex of its own, or to no earlier one: one pass over the vertices is enough.
abbrev pub LeadsOneWay : AbstractGame → Lists → (n : ℕ) → Type 0
LeadsOneWay game lists n = LeadsBack game lists n ⊎ LeadsForth game lists n

-- Entries were filled; those of the other nodes stay.
pub record Fills (old new : Table) (n : ℕ) : Type 0 where
  pub vertices : new.vertices ≡ old.vertices
  pub targets : Keeps (length old.targets.items) old.targets.items new.targets.items
  pub others : (m w : ℕ) → m ≢ n → w < old.vertices → entry_at new m w ≡ entry_at old m w

-- The entry of a node and a vertex was filled; the others stay.
pub record FillsOne (game : AbstractGame) (lists : Lists) (old new : Table) (n v : ℕ) : Type 0 where
  pub sound : IsSoundTable game lists new
  pub fills : Fills old new n
  pub beside : (w : ℕ) → w ≢ v → w < old.vertices → entry_at new n w ≡ entry_at old n w
  pub closed : IsClosed game lists new n v

-- The entries of a node were filled at the first vertices.
pub record FillsUpTo (game : AbstractGame) (lists : Lists) (old new : Table) (n many : ℕ) : Type 0 where
  pub sound : IsSoundTable game lists new
  pub fills : Fills old new n
  pub closed : LeadsBack game lists n → (v : ℕ) → v < many → IsClosed game lists new n v

-- The same at the last vertices, from one on.
pub record FillsDownTo (game : AbstractGame) (lists : Lists) (old new : Table) (n many : ℕ) : Type 0 where
  pub sound : IsSoundTable game lists new
  pub fills : Fills old new n
  pub closed :
      LeadsForth game lists n → (v : ℕ) → v < length game.board.first → length game.board.first ≤ v + many →
      IsClosed game lists new n v

-- The entries of a node were filled, and nothing wrong is recorded.
pub record FillsRightly (game : AbstractGame) (lists : Lists) (old new : Table) (n : ℕ) : Type 0 where
  pub sound : IsSoundTable game lists new
  pub fills : Fills old new n

-- Whether a node is marked.
abbrev pub IsMarked : List Bool → ℕ → Type 0
IsMarked marks n = slice_index_or marks n false ≡ true

-- The shifts of a node's list lead to marked nodes, or to the node again.
abbrev pub LeadsToMarked : AbstractGame → Lists → List Bool → (n : ℕ) → Type 0
LeadsToMarked game lists marks n =
    (p : ℕ) → Contains (list_at lists.interner n) p → IsShiftAt game.rules p →
    slice_index_or lists.afters.items p 0 ≢ n → IsMarked marks (slice_index_or lists.afters.items p 0)

-- From marked nodes shifts lead to marked ones, and nothing is missing in those for which one pass is enough.
pub record AreFilled (game : AbstractGame) (lists : Lists) (table : Table) (marks : List Bool) : Type 0 where
  pub sound : IsSoundTable game lists table
  pub next : (n : ℕ) → IsMarked marks n → LeadsToMarked game lists marks n
  pub closed :
      (n v : ℕ) → IsMarked marks n → LeadsOneWay game lists n → v < length game.board.first →
      IsClosed game lists table n v

-- .. in the table of a game, with the nodes of its rules.
pub record AreFilledSoFar (game : AbstractGame) (lists : Lists) (table : Table) (marks : List Bool) : Type 0 where
  pub lawful : IsGame game
  pub nodes : AreListsOf game.rules lists
  pub filled : AreFilled game lists table marks

-- The entries of a node record what one step by position p leads to, at each vertex.
abbrev pub RecordsStepEverywhere : AbstractGame → Lists → Table → (n p : ℕ) → Type 0
RecordsStepEverywhere game lists table n p =
    (v : ℕ) → v < length game.board.first → RecordsStepAt game lists table (entry_at table n v) v p

-- Nothing is missing in the entries of a node.
abbrev pub AreClosedAt : AbstractGame → Lists → Table → (n : ℕ) → Type 0
AreClosedAt game lists table n = (v : ℕ) → v < length game.board.first → IsClosed game lists table n v

-- Nothing was missing in the entries of a node, and nothing changed.
pub record StaysClosed (game : AbstractGame) (lists : Lists) (old new : Table) (n : ℕ) : Type 0 where
  pub same : new ≡ old
  pub closed : AreClosedAt game lists new n

-- Nothing is missing in the entries of the last `many` nodes.
abbrev pub AreClosedFrom : AbstractGame → Lists → Table → (many : ℕ) → Type 0
AreClosedFrom game lists table many =
    (n v : ℕ) → length lists.interner.nodes.items ≤ n + many → n < length lists.interner.nodes.items →
    v < length game.board.first → IsClosed game lists table n v

-- Entries of nodes, side by side, out of those of all nodes.
pub record AreLaid (vertices : ℕ) (all : List Entry) (nodes : List ℕ) (entries : List Entry) : Type 0 where
  pub size : length entries ≡ length nodes * vertices
  pub within : (many : ℕ) → All (IsWithin many) all → All (IsWithin many) entries
  pub each :
      (i v : ℕ) → i < length nodes → v < vertices →
      entry_in entries vertices i v ≡ entry_in all vertices (slice_index_or nodes i 0) v

-- Nothing is missing at all.
abbrev pub AreAllClosed : AbstractGame → Lists → Table → Type 0
AreAllClosed game lists table =
    (n v : ℕ) → n < length lists.interner.nodes.items → v < length game.board.first → IsClosed game lists table n v

-- The table is right, and nothing is missing.
pub record IsFilled (game : AbstractGame) (lists : Lists) (table : Table) : Type 0 where
  pub sound : IsSoundTable game lists table
  pub closed : AreAllClosed game lists table
