-- An entry that shares what is recorded after a shift.
use Rattle.std.proofs.Common.{◌≡◌, ◌+◌, ◌*◌, ◌<◌, ◌∙◌, ◌⊎◌, ℕ, length, get_or, sym, ap, subst, Bool, Contains, IsTrue}
use Rattle.rbg_rules.specs.Meaning.{IsNumbered, AbstractGame, after}
use Rattle.rbg_shifts.proofs.Common.{Lists, Entry, Table, end_of, IsShiftAt, entry_at, IsSoundEntry, IsSoundTable, IsUnder, RecordsStepAt, list_at, may_end_at, IsNodeOf, AreListsOf, Comes}
use Rattle.rbg_shifts.proofs.Fillings.{told_after}
use Rattle.rbg_shifts.proofs.ShiftLemmas.{shift_within}
use Rattle.rbg_shifts.proofs.Tabling.{place_there, entry_on}

-- The entry after a shift is that of a node, and is right there.
pub record IsRightAfter (game : AbstractGame) (lists : Lists) (table : Table) (p w : ℕ) (e : Entry) : Type 0 where
  pub node : IsNodeOf game.rules lists.interner (after p) (get_or lists.afters.items p 0)
  pub sound :
      IsSoundEntry game (list_at lists.interner (get_or lists.afters.items p 0)) (may_end_at lists.interner (get_or lists.afters.items p 0)) w table e

pub right_after : (game : AbstractGame) → IsNumbered game.rules → (lists : Lists) → AreListsOf game.rules lists → (table : Table) → IsSoundTable game lists table → (p w k : ℕ) (e : Entry) → IsShiftAt game.rules p → w < length game.board.first → k ≡ get_or lists.afters.items p 0 → e ≡ entry_at table k w → IsRightAfter game lists table p w e
right_after game numbered lists are table right p w k e is below beyond at = record {
  node = node;
  sound = subst (IsSoundEntry game (list_at lists.interner m) (may_end_at lists.interner m) w table) (sym same) (right.sound m w node.there on_board);
}
  where
    m : ℕ
    m = get_or lists.afters.items p 0

    node : IsNodeOf game.rules lists.interner (after p) m
    node = are.nodes.after_each p (shift_within game.rules numbered p is)

    on_board : w < table.vertices
    on_board = subst (λ (many : ℕ). w < many) (sym right.laid_out.vertices) below

    same : e ≡ entry_at table m w
    same = at ∙ ap (λ (i : ℕ). entry_at table i w) beyond

-- .. and that entry is there.
pub after_there : (game : AbstractGame) → IsNumbered game.rules → (lists : Lists) → AreListsOf game.rules lists → (table : Table) → IsSoundTable game lists table → (p w k : ℕ) → IsShiftAt game.rules p → w < length game.board.first → k ≡ get_or lists.afters.items p 0 → k * table.vertices + w < length table.entries.items
after_there game numbered lists are table right p w k is below beyond =
    let node : IsNodeOf game.rules lists.interner (after p) (get_or lists.afters.items p 0) = are.nodes.after_each p (shift_within game.rules numbered p is) in
    let there : k < length lists.interner.nodes.items = subst (λ (n : ℕ). n < length lists.interner.nodes.items) (sym beyond) node.there in
    let on_board : w < table.vertices = subst (λ (many : ℕ). w < many) (sym right.laid_out.vertices) below in
    subst (λ (n : ℕ). k * table.vertices + w < n) (sym right.laid_out.size) (place_there (length lists.interner.nodes.items) k table.vertices w there on_board)

pub entry_step : (game : AbstractGame) → IsNumbered game.rules → (lists : Lists) → AreListsOf game.rules lists → (table : Table) → IsSoundTable game lists table → (n v p w k : ℕ) (e : Entry) → Contains (list_at lists.interner n) p → IsShiftAt game.rules p → Comes game v p w → w < length game.board.first → k ≡ get_or lists.afters.items p 0 → e ≡ entry_at table k w → (ends : Bool) → (IsTrue ends → IsTrue e.ends ⊎ IsTrue (may_end_at lists.interner n)) → IsSoundEntry game (list_at lists.interner n) (may_end_at lists.interner n) v table (record { start = e.start; many = e.many; ends = ends })
entry_step game numbered lists are table right n v p w k e there is comes below beyond at ends either =
    let before = right_after game numbered lists are table right p w k e is below beyond at in
    entry_on game numbered lists table n v p w (get_or lists.afters.items p 0) e there is comes before.node before.sound ends either

-- What is recorded after the only shift, an entry records that shares its targets.
pub shared_told : (game : AbstractGame) (lists : Lists) (table : Table) → IsSoundTable game lists table → (v p to k : ℕ) (e : Entry) (ends : Bool) → IsShiftAt game.rules p → ((w : ℕ) → Comes game v p w → w ≡ to) → to < length game.board.first → k ≡ get_or lists.afters.items p 0 → e ≡ entry_at table k to → (IsTrue e.ends → IsTrue ends) → RecordsStepAt game lists table (record { start = e.start; many = e.many; ends = ends }) v p
shared_told game lists table right v p to k e ends is only below beyond at more =
    let on_board : to < table.vertices = subst (λ (many : ℕ). to < many) (sym right.laid_out.vertices) below in
    let same : e ≡ entry_at table (get_or lists.afters.items p 0) to = at ∙ ap (λ (i : ℕ). entry_at table i to) beyond in
    told_after game lists table e.start (end_of e) ends v p to is only on_board
    (subst (λ (x : Entry). IsUnder table x e.start (end_of e) ends) same (record { tells = λ j u told. told; ends = more }))
