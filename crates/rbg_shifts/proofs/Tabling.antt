-- A table that is being made: what stays right when it grows.
use Rattle.rbg_base.proofs.Common.{◌≡◌, ◌≢◌, ℕ, ◌+◌, ◌-◌, ◌*◌, ◌/◌, ◌<◌, ◌≤◌, ◌⊎◌, List, length, get_or, Bool, true, false, refl, sym, ap, ◌∙◌, subst, inl, inr, zero, suc, arith, All, Contains, IsTrue, slice_range, replicate, length-replicate}
use Rattle.std.proofs.Math.ListN.{get_or-eq_default}
use Rattle.std.proofs.Math.Nat.{mul-le-mul_right}
use Rattle.rbg_rules.specs.Meaning.{IsNumbered, AbstractGame, Start, after}
use Rattle.rbg_shifts.proofs.Common.{Lists, Entry, Table, Target, IsEndOf, AreTargetsFrom, IsShiftAt, IsLeap, end_of, IsWithin, row_words, no_entry, IsEntry, list_at, may_end_at, IsNodeOf, AreListsOf, Comes, IsLeapBy, EndsBy, entry_at, no_target, target_at, HasEnd, IsTargetOf, IsTargetBy, AreSound, AreSoundBy, HasEndAt, IsSoundEntry, IsSoundTable, Keeps, Grows, IsGathered, Shares, IsFilled, IsClosed, StaysClosed, AreClosedFrom}
use Rattle.rbg_shifts.proofs.Places.{any_default, below_or_not, same_or_not, one_place, part_item, part_long, part_short}
use Rattle.rbg_shifts.proofs.Steppings.{leap_here, leap_on, ends_here, ends_on, all_told, all_ends_told}
use Rattle.rbg_shifts.proofs.Targets.{keeps_none, keeps_same, keeps_more, sound_kept, sound_none}

-- Each entry of a table is within as many targets as all of those that are there.
pub entry_within : (size : ℕ) (t : Table) → All (IsWithin size) t.entries.items → (n v : ℕ) → IsWithin size (entry_at t n v)
entry_within size t all n v = elim (below_or_not (n * t.vertices + v) (length t.entries.items)) [
  | inl there ↦ all (n * t.vertices + v) no_entry there
  | inr far ↦ subst (IsWithin size) (sym (get_or-eq_default t.entries.items no_entry far)) (record { ends = omega arith })
]

pub within_at : (t : Table) (n v : ℕ) → IsWithin (length t.targets.items) (entry_at t n v)
within_at t n v = entry_within (length t.targets.items) t t.within n v

-- The entries of a table are within its targets if no target is taken away.
pub within_kept : (place : ℕ) (es : List Entry) (old new : List Target) → Keeps place old new → All (IsWithin (length old)) es → All (IsWithin (length new)) es
within_kept place es old new keeps all = λ i d below. record { ends = let ends = (all i d below).ends in let size = keeps.size in omega (arith, ends, size) }

-- A table that grew.
pub grows_none : (place : ℕ) (t : Table) → Grows place t t
grows_none place t = record { vertices = refl; are_entries = refl; targets = keeps_none place t.targets.items }

pub grows_more : (place : ℕ) (a b c : Table) → Grows place a b → Grows place b c → Grows place a c
grows_more place a b c first second = record {
  vertices = second.vertices ∙ first.vertices;
  are_entries = second.are_entries ∙ first.are_entries;
  targets = keeps_more place a.targets.items b.targets.items c.targets.items first.targets second.targets;
}

pub entry_same : (place : ℕ) (old new : Table) → Grows place old new → (n v : ℕ) → entry_at new n v ≡ entry_at old n v
entry_same place old new grows n v =
    ap (λ (es : List Entry). get_or es (n * new.vertices + v) no_entry) grows.are_entries
    ∙ ap (λ (k : ℕ). get_or old.entries.items (n * k + v) no_entry) grows.vertices

-- An entry stays sound if targets after its own are added or changed.
pub entry_grown : (game : AbstractGame) (list : List ℕ) (may_end : Bool) (v place : ℕ) (old new : Table) → Keeps place old.targets.items new.targets.items → (e : Entry) → IsWithin place e → IsSoundEntry game list may_end v old e → IsSoundEntry game list may_end v new e
entry_grown game list may_end v place old new keeps e inside is = record {
  within = record { ends = let size = keeps.size in let within = is.within.ends in omega (arith, size, within) };
  targets = sound_kept (IsLeapBy game list may_end v) (row_words game) place old.targets.items new.targets.items e.start (end_of e) keeps inside.ends is.targets;
  ends = is.ends;
}

pub table_grown : (game : AbstractGame) (lists : Lists) (place : ℕ) (old new : Table) → All (IsWithin place) old.entries.items → Grows place old new → IsSoundTable game lists old → IsSoundTable game lists new
table_grown game lists place old new inside grows is = record {
  laid_out = record {
    vertices = grows.vertices ∙ is.laid_out.vertices;
    size = ap length grows.are_entries ∙ is.laid_out.size ∙ ap (λ (k : ℕ). length lists.interner.nodes.items * k) (sym grows.vertices);
  };
  sound = λ n v there below.
      subst (IsSoundEntry game (list_at lists.interner n) (may_end_at lists.interner n) v new) (sym (entry_same place old new grows n v))
      (entry_grown game (list_at lists.interner n) (may_end_at lists.interner n) v place old new grows.targets (entry_at old n v) (entry_within place old inside n v)
      (is.sound n v there (subst (λ (k : ℕ). v < k) grows.vertices below)));
}

-- The place of a node and a vertex is there.
pub place_there : (nodes n vertices v : ℕ) → n < nodes → v < vertices → n * vertices + v < nodes * vertices
place_there nodes n vertices v there below =
    let row : n + 1 ≤ nodes = omega (arith, there) in
    let rows : (n + 1) * vertices ≤ nodes * vertices = mul-le-mul_right vertices row in
    omega (arith, below, rows)

-- Where the targets from a place on end.
pub whole_end : (start size : ℕ) → start ≤ size → start + (size - start) ≡ size
whole_end start size inside = omega (arith, inside)

-- A table stays right when a right entry is put into it.
pub table_shared : (game : AbstractGame) (lists : Lists) (old new : Table) (n v : ℕ) (e : Entry) → v < old.vertices → IsSoundTable game lists old → Shares old new n v e → IsSoundEntry game (list_at lists.interner n) (may_end_at lists.interner n) v old e → IsSoundTable game lists new
table_shared game lists old new n v e below is shares sound_here = record {
  laid_out = record {
    vertices = shares.vertices ∙ is.laid_out.vertices;
    size = shares.size ∙ is.laid_out.size ∙ ap (λ (k : ℕ). length lists.interner.nodes.items * k) (sym shares.vertices);
  };
  sound = λ m w there small. at m w there (subst (λ (k : ℕ). w < k) shares.vertices small) (same_or_not (m * old.vertices + w) (n * old.vertices + v));
}
  where
    grown : (list : List ℕ) (may_end : Bool) (u : ℕ) (x : Entry) → IsSoundEntry game list may_end u old x → IsSoundEntry game list may_end u new x
    grown list may_end u x right =
        entry_grown game list may_end u (end_of x) old new (keeps_same (end_of x) old.targets.items new.targets.items shares.are_targets) x (record { ends = omega arith }) right

    at : (m w : ℕ) → m < length lists.interner.nodes.items → w < old.vertices → (m * old.vertices + w ≡ n * old.vertices + v) ⊎ (m * old.vertices + w ≢ n * old.vertices + v) → IsSoundEntry game (list_at lists.interner m) (may_end_at lists.interner m) w new (entry_at new m w)
    at m w there small (inl same) =
        let both = one_place old.vertices w v m n small below same in
        subst (λ (k : ℕ). IsSoundEntry game (list_at lists.interner k) (may_end_at lists.interner k) w new (entry_at new k w)) (sym both.0)
        (subst (λ (u : ℕ). IsSoundEntry game (list_at lists.interner n) (may_end_at lists.interner n) u new (entry_at new n u)) (sym both.1)
        (subst (IsSoundEntry game (list_at lists.interner n) (may_end_at lists.interner n) v new) (sym shares.here)
        (grown (list_at lists.interner n) (may_end_at lists.interner n) v e sound_here)))
    at m w there small (inr differ) =
        let same : entry_at new m w ≡ entry_at old m w =
        ap (λ (k : ℕ). get_or new.entries.items (m * k + w) no_entry) shares.vertices ∙ shares.others (m * old.vertices + w) differ in
        subst (IsSoundEntry game (list_at lists.interner m) (may_end_at lists.interner m) w new) (sym same)
        (grown (list_at lists.interner m) (may_end_at lists.interner m) w (entry_at old m w) (is.sound m w there small))

-- What was gathered from a place on is a sound entry.
pub entry_gathered : (game : AbstractGame) (lists : Lists) (t : Table) (start n v : ℕ) (ends : Bool) → start ≤ length t.targets.items → IsGathered game lists t start n v → (IsTrue ends → EndsBy game (list_at lists.interner n) (may_end_at lists.interner n) v) → IsSoundEntry game (list_at lists.interner n) (may_end_at lists.interner n) v t (record { start = start; many = length t.targets.items - start; ends = ends })
entry_gathered game lists t start n v ends inside gathered end = record {
  within = record { ends = omega (arith, inside) };
  targets = subst (AreSoundBy game (list_at lists.interner n) (may_end_at lists.interner n) v t.targets.items start) (sym (whole_end start (length t.targets.items) inside)) gathered;
  ends = end;
}

-- A table with nothing recorded.
pub blank_table : (game : AbstractGame) (lists : Lists) (t : Table) (places : ℕ) → t.vertices ≡ length game.board.first → places ≡ length lists.interner.nodes.items * t.vertices → t.entries.items ≡ replicate places no_entry → IsSoundTable game lists t
blank_table game lists t places vertices many entries = record {
  laid_out = record {
    vertices = vertices;
    size = ap length entries ∙ length-replicate places no_entry ∙ many;
  };
  sound = λ n v there below. subst (IsSoundEntry game (list_at lists.interner n) (may_end_at lists.interner n) v t) (sym (none n v)) (record {
    within = record { ends = omega arith };
    targets = sound_none (IsLeapBy game (list_at lists.interner n) (may_end_at lists.interner n) v) (row_words game) t.targets.items 0 0 (omega arith);
    ends = λ is. absurd (false_not_true is);
  });
}
  where
    false_not_true : false ≡ true → ⊥
    false_not_true e = cc

    blanks : (k i : ℕ) → get_or (replicate k no_entry) i no_entry ≡ no_entry
    blanks zero i = refl
    blanks (suc k) zero = refl
    blanks (suc k) (suc i) = blanks k i

    none : (n v : ℕ) → entry_at t n v ≡ no_entry
    none n v = ap (λ (es : List Entry). get_or es (n * t.vertices + v) no_entry) entries ∙ blanks places (n * t.vertices + v)

-- A vertex is in a column of the board.
pub column_there : (game : AbstractGame) (v : ℕ) → v < length game.board.first → v / 64 < row_words game
column_there game v below = omega (arith, below)

-- The target of a vertex, at the position that is tried there.
pub unit_sound : (game : AbstractGame) (list : List ℕ) (may_end : Bool) (v p : ℕ) (t : Target) → v < length game.board.first → Contains list p → ¬ IsShiftAt game.rules p → IsEndOf t p v → ((q u : ℕ) → IsEndOf t q u → q ≡ p) → ((q u : ℕ) → IsEndOf t q u → u ≡ v) → t.column ≡ v / 64 → IsTargetBy game list may_end v t
unit_sound game list may_end v p t below there plain has position vertex column = record {
  only = λ q u is.
      subst (λ (x : ℕ). IsLeapBy game list may_end v x u) (sym (position q u is))
      (subst (IsLeapBy game list may_end v p) (sym (vertex q u is)) (leap_here game list may_end v p there plain));
  some = (v, subst (λ (x : ℕ). IsEndOf t x v) has.position has);
  column = subst (λ (k : ℕ). k < row_words game) (sym column) (column_there game v below);
}

-- What an entry after a shift records is right before the shift.
pub sound_on : (game : AbstractGame) → IsNumbered game.rules → (lists : Lists) (table : Table) (n v p w m : ℕ) (e : Entry) → Contains (list_at lists.interner n) p → IsShiftAt game.rules p → Comes game v p w → IsNodeOf game.rules lists.interner (after p) m → IsSoundEntry game (list_at lists.interner m) (may_end_at lists.interner m) w table e → AreSoundBy game (list_at lists.interner n) (may_end_at lists.interner n) v table.targets.items e.start (end_of e)
sound_on game numbered lists table n v p w m e there is comes node sound = record {
  each = λ i beyond short. let at = sound.targets.each i beyond short in record {
    only = λ q u has. leap_on game numbered (list_at lists.interner n) (may_end_at lists.interner n) v p w q u there is comes (list_at lists.interner m) (may_end_at lists.interner m) node.answer (at.only q u has);
    some = at.some;
    column = at.column;
  };
}

pub sound_ends_on : (game : AbstractGame) → IsNumbered game.rules → (lists : Lists) (table : Table) (n v p w m : ℕ) (e : Entry) → Contains (list_at lists.interner n) p → IsShiftAt game.rules p → Comes game v p w → IsNodeOf game.rules lists.interner (after p) m → IsSoundEntry game (list_at lists.interner m) (may_end_at lists.interner m) w table e → IsTrue e.ends → EndsBy game (list_at lists.interner n) (may_end_at lists.interner n) v
sound_ends_on game numbered lists table n v p w m e there is comes node sound ends = ends_on game numbered (list_at lists.interner n) (may_end_at lists.interner n) v p w there is comes (list_at lists.interner m) (may_end_at lists.interner m) node.answer (sound.ends ends)

-- The entry after a shift, as the entry before it.
pub entry_on : (game : AbstractGame) → IsNumbered game.rules → (lists : Lists) (table : Table) (n v p w m : ℕ) (e : Entry) → Contains (list_at lists.interner n) p → IsShiftAt game.rules p → Comes game v p w → IsNodeOf game.rules lists.interner (after p) m → IsSoundEntry game (list_at lists.interner m) (may_end_at lists.interner m) w table e → (ends : Bool) → (IsTrue ends → IsTrue e.ends ⊎ IsTrue (may_end_at lists.interner n)) → IsSoundEntry game (list_at lists.interner n) (may_end_at lists.interner n) v table (record { start = e.start; many = e.many; ends = ends })
entry_on game numbered lists table n v p w m e there is comes node sound ends either = record {
  within = record { ends = sound.within.ends };
  targets = sound_on game numbered lists table n v p w m e there is comes node sound;
  ends = λ t. by (either t);
}
  where
    by : IsTrue e.ends ⊎ IsTrue (may_end_at lists.interner n) → EndsBy game (list_at lists.interner n) (may_end_at lists.interner n) v
    by (inl t) = sound_ends_on game numbered lists table n v p w m e there is comes node sound t
    by (inr t) = ends_here game (list_at lists.interner n) (may_end_at lists.interner n) v t

-- An entry without targets.
pub entry_of_none : (game : AbstractGame) (lists : Lists) (table : Table) (n v : ℕ) (ends : Bool) → (IsTrue ends → IsTrue (may_end_at lists.interner n)) → IsSoundEntry game (list_at lists.interner n) (may_end_at lists.interner n) v table (record { start = 0; many = 0; ends = ends })
entry_of_none game lists table n v ends only = record {
  within = record { ends = omega arith };
  targets = sound_none (IsLeapBy game (list_at lists.interner n) (may_end_at lists.interner n) v) (row_words game) table.targets.items 0 0 (omega arith);
  ends = λ t. ends_here game (list_at lists.interner n) (may_end_at lists.interner n) v (only t);
}

-- Sound targets between two places that record all leaps are what is asked for.
pub asked_between : (game : AbstractGame) (f : Start) (v : ℕ) (targets : List Target) (from to : ℕ) → to ≤ length targets → AreSound (IsLeap game f v) (row_words game) targets from to → ((j u : ℕ) → IsLeap game f v j u → HasEnd targets from to j u) → AreTargetsFrom game f v (slice_range targets from to)
asked_between game f v targets from to inside are all = record {
  sound = λ t there p u is. (right t there).only p u is;
  all = λ p u leap.
      let told = all p u leap in
      (target_at targets told.at, listed told.at told.beyond told.before, told.is);
  some = λ t there. (right t there).some;
  columns = λ t there. (right t there).column;
}
  where
    right : (t : Target) → Contains (slice_range targets from to) t → IsTargetOf (IsLeap game f v) (row_words game) t
    right t (k, below, is) =
        let short : from + k < to = part_short targets from to k inside below in
        subst (IsTargetOf (IsLeap game f v) (row_words game)) (sym (part_item targets from to k t short) ∙ is)
        (subst (IsTargetOf (IsLeap game f v) (row_words game)) (any_default targets (from + k) no_target t (omega (arith, short, inside))) (are.each (from + k) (omega arith) short))

    listed : (i : ℕ) → from ≤ i → i < to → Contains (slice_range targets from to) (target_at targets i)
    listed i beyond short =
        let at : from + (i - from) ≡ i = omega (arith, beyond) in
        let below : from + (i - from) < to = omega (arith, at, short) in (
          i - from,
          part_long targets from to (i - from) inside below,
          part_item targets from to (i - from) (target_at targets i) below
              ∙ ap (λ (k : ℕ). get_or targets k (target_at targets i)) at
              ∙ any_default targets i (target_at targets i) no_target (omega (arith, short, inside)),
        )

-- If nothing is missing, sound targets are exactly those of the leaps.
module _ (game : AbstractGame) (numbered : IsNumbered game.rules) (lists : Lists) (are : AreListsOf game.rules lists) (table : Table) (filled : IsFilled game lists table) (f : Start) (n v : ℕ) (node : IsNodeOf game.rules lists.interner f n) (below : v < length game.board.first) where
  abbrev pub own : Entry
  own = entry_at table n v

  sound : IsSoundEntry game (list_at lists.interner n) (may_end_at lists.interner n) v table own
  sound = filled.sound.sound n v node.there (subst (λ (k : ℕ). v < k) (sym filled.sound.laid_out.vertices) below)

  tells : (j u : ℕ) → IsLeap game f v j u → HasEndAt table own j u
  tells j u leap = all_told game numbered lists are table filled.sound.laid_out.vertices filled.closed f n v node below leap.shifts leap.leads leap.follows leap.plain

  leaps : AreSound (IsLeap game f v) (row_words game) table.targets.items own.start (end_of own)
  leaps = record {
    each = λ i beyond short.
        let at = sound.targets.each i beyond short in
        record { only = λ p u has. (at.only p u has).leap f node.answer; some = at.some; column = at.column };
  }

  pub filled_entry : IsEntry game f v table.targets.items own
  filled_entry = record {
    within = sound.within;
    are = asked_between game f v table.targets.items own.start (end_of own) sound.within.ends leaps tells;
    ends = (λ is. (sound.ends is).ends f node.answer, λ end. all_ends_told game numbered lists are table filled.sound.laid_out.vertices filled.closed f n v node below end.shifts end.leads end.ends);
  }

-- One node more at which nothing is missing.
pub one_more_node : (game : AbstractGame) (lists : Lists) (old new : Table) (many n : ℕ) → n + 1 + many ≡ length lists.interner.nodes.items → AreClosedFrom game lists old many → StaysClosed game lists old new n → AreClosedFrom game lists new (many + 1)
one_more_node game lists old new many n size so_far now = λ m v far there below. at m v far there below (same_or_not m n)
  where
    at : (m v : ℕ) → length lists.interner.nodes.items ≤ m + (many + 1) → m < length lists.interner.nodes.items → v < length game.board.first → (m ≡ n) ⊎ (m ≢ n) → IsClosed game lists new m v
    at m v far there below (inl e) = subst (λ (k : ℕ). IsClosed game lists new k v) (sym e) (now.closed v below)
    at m v far there below (inr differ) = subst (λ (t : Table). IsClosed game lists t m v) (sym now.same) (so_far m v (later m far differ) there below)
      where
        later : (m : ℕ) → length lists.interner.nodes.items ≤ m + (many + 1) → m ≢ n → length lists.interner.nodes.items ≤ m + many
        later m far differ = elim (below_or_not n m) [
          | inl more ↦ omega (arith, more, size)
          | inr less ↦ absurd (differ (omega (arith, less, far, size)))
        ]
