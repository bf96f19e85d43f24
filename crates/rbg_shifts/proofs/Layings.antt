-- The entries of nodes, side by side.
use Rattle.rbg_base.proofs.Common.{◌≡◌, ℕ, ◌+◌, ◌*◌, ◌<◌, ◌≤◌, List, [], ◌∷◌, ◌++◌, length, get_or, take, sym, ap, ◌∙◌, subst, arith, All, slice_range, All-append, All-drop, All-take}
use Rattle.std.proofs.lemmas.List.{length-append, length-take-le, length-drop, get_or_append_left, get_or_push, get_or-append-add}
use Rattle.std.proofs.Math.Nat.{mul-le-mul_right}
use Rattle.std.proofs.lemmas.Slice.{between_is}
use Rattle.rbg_rules.specs.Meaning.{Expression, IsStart, IsNumbered, inside, AbstractGame, Start, beginning, after}
use Rattle.rbg_auto.specs.declared.steps.Expr.TheVariants.{Rules, Inside}
use Rattle.rbg_shifts.proofs.Common.{Leaps, Lists, Origin, Begin, After, Entry, Table, Target, IsWithin, no_entry, entry_in, entry_of, IsEntry, AreLeapsOf, start_of, IsNodeOf, AreListsOf, origin_node, AreLaid, IsFilled}
use Rattle.rbg_shifts.proofs.Places.{part_item, same_item, LastPlace, before, last, last_place}
use Rattle.rbg_shifts.proofs.Interning.{node_there}
use Rattle.rbg_shifts.proofs.ShiftLemmas.{action_within}
use Rattle.rbg_shifts.proofs.Tabling.{place_there, filled_entry}

-- No node yet,
pub laid_none : (vertices : ℕ) (all : List Entry) → AreLaid vertices all [] []
laid_none vertices all = record {
  size = omega arith;
  within = λ many are i d below. absurd (omega (arith, below));
  each = λ i v below small. absurd (omega (arith, below));
}

-- .. and one node more.
pub laid_more : (vertices : ℕ) (all : List Entry) (nodes : List ℕ) (entries : List Entry) (n : ℕ) → n * vertices + vertices ≤ length all → AreLaid vertices all nodes entries → AreLaid vertices all (nodes ++ n ∷ []) (entries ++ slice_range all (n * vertices) (n * vertices + vertices))
laid_more vertices all nodes entries n there are = record {
  size =
      length-append entries part ∙ ap (λ (k : ℕ). k + length part) are.size ∙ ap (λ (k : ℕ). length nodes * vertices + k) long
      ∙ let more = length-append nodes (n ∷ []) in row_more (length nodes) (length (nodes ++ n ∷ [])) vertices (omega (arith, more));
  within = λ many all_in. All-append (IsWithin many) entries part (are.within many all_in) (within_part many all_in);
  each = λ i v below small. at i v small (last_place (length nodes) i (let more = length-append nodes (n ∷ []) in omega (arith, below, more)));
}
  where
    first : ℕ
    first = n * vertices

    part : List Entry
    part = slice_range all first (first + vertices)

    row_more : (k m s : ℕ) → m ≡ k + 1 → k * s + s ≡ m * s
    row_more k m s is = let same : (k + 1) * s ≡ m * s = ap (λ (x : ℕ). x * s) (sym is) in omega (arith, same)

    long : length part ≡ vertices
    long =
        let same = ap length (between_is all first (first + vertices)) in
        let front = length-take-le (first + vertices) all there in
        let rest = length-drop first (take (first + vertices) all) in
        omega (arith, same, front, rest)

    within_part : (many : ℕ) → All (IsWithin many) all → All (IsWithin many) part
    within_part many all_in =
        subst (All (IsWithin many)) (sym (between_is all first (first + vertices)))
        (All-drop (IsWithin many) first _ (All-take (IsWithin many) (first + vertices) all all_in))

    at : (i v : ℕ) → v < vertices → LastPlace (length nodes) i → entry_in (entries ++ part) vertices i v ≡ entry_in all vertices (get_or (nodes ++ n ∷ []) i 0) v
    at i v small (before below) =
        get_or_append_left entries part no_entry (i * vertices + v) (subst (λ (k : ℕ). i * vertices + v < k) (sym are.size) (place_there (length nodes) i vertices v below small))
        ∙ are.each i v below small
        ∙ ap (λ (m : ℕ). entry_in all vertices m v) (sym (get_or_append_left nodes (n ∷ []) 0 i below))
    at i v small (last e) =
        ap (λ (k : ℕ). get_or (entries ++ part) (k + v) no_entry) (ap (λ (k : ℕ). k * vertices) e ∙ sym are.size)
        ∙ get_or-append-add entries part v no_entry
        ∙ part_item all first (first + vertices) v no_entry (omega (arith, small))
        ∙ ap (λ (m : ℕ). entry_in all vertices m v) (sym (get_or_push nodes n 0 i (sym e)))

-- The leaps of a game are those of a filled table, with the entries after each position side by side.
pub are_leaps : (game : AbstractGame) → IsNumbered game.rules → (lists : Lists) → AreListsOf game.rules lists → (table : Table) → IsFilled game lists table → (leaps : Leaps) → leaps.vertices ≡ table.vertices → leaps.rules ≡ lists.rules → leaps.insides.items ≡ lists.insides.items → leaps.entries.items ≡ table.entries.items → leaps.targets.items ≡ table.targets.items → AreLaid table.vertices leaps.entries.items lists.afters.items leaps.afters.items → AreLeapsOf game leaps
are_leaps game numbered lists are table filled leaps vertices first insides are_entries are_targets laid = record {
  entries = λ origin v below start.
      subst (IsEntry game (start_of origin) v leaps.targets.items) (sym (same origin v below start))
      (of_node (start_of origin) (origin_node lists origin) v (node_there game numbered lists are origin start) below);
}
  where
    on_board : table.vertices ≡ length game.board.first
    on_board = filled.sound.laid_out.vertices

    here : (n v : ℕ) → Entry
    here n v = entry_in leaps.entries.items table.vertices n v

    same : (origin : Origin) (v : ℕ) → v < length game.board.first → IsStart game.rules (start_of origin) → entry_of leaps origin v ≡ here (origin_node lists origin) v
    same (Begin Rules) v below start =
        ap (λ (m : ℕ). entry_in leaps.entries.items m leaps.rules v) vertices ∙ ap (λ (n : ℕ). here n v) first
    same (Begin (Inside p)) v below start =
        ap (λ (m : ℕ). entry_in leaps.entries.items m (get_or leaps.insides.items p 0) v) vertices
        ∙ ap (λ (ns : List ℕ). here (get_or ns p 0) v) insides
    same (After p) v below (a, stands) =
        let small = (action_within game.rules numbered p a stands).1 in
        ap (λ (m : ℕ). entry_in leaps.afters.items m p v) vertices
        ∙ laid.each p v (let size = are.nodes.afters_size in omega (arith, size, small)) (subst (λ (k : ℕ). v < k) (sym on_board) below)

    of_node : (f : Start) (n v : ℕ) → IsNodeOf game.rules lists.interner f n → v < length game.board.first → IsEntry game f v leaps.targets.items (here n v)
    of_node f n v node below =
        subst (λ (ts : List Target). IsEntry game f v ts (here n v)) (sym are_targets)
        (subst (λ (es : List Entry). IsEntry game f v table.targets.items (entry_in es table.vertices n v)) (sym are_entries)
        (filled_entry game numbered lists are table filled f n v node below))

-- The rows of entries of nodes that are there.
row_there : (vertices : ℕ) (entries : List Entry) (nodes n : ℕ) → length entries ≡ nodes * vertices → n < nodes → n * vertices + vertices ≤ length entries
row_there vertices entries nodes n size there =
    let rows : (n + 1) * vertices ≤ nodes * vertices = mul-le-mul_right vertices (omega (arith, there)) in
    omega (arith, size, rows)

rows_there_by : (rules : Expression) (lists : Lists) (vertices : ℕ) (entries : List Entry) → length entries ≡ length lists.interner.nodes.items * vertices → (ns : List ℕ) (F : ℕ → Start) → ((p : ℕ) → p < length ns → IsNodeOf rules lists.interner (F p) (get_or ns p 0)) → All (λ n. n * vertices + vertices ≤ length entries) ns
rows_there_by rules lists vertices entries size ns F each = λ i d below.
    let there = (each i below).there in
    subst (λ (n : ℕ). n * vertices + vertices ≤ length entries) (sym (same_item ns i d below)) (row_there vertices entries (length lists.interner.nodes.items) (get_or ns i 0) size there)

-- Those of the nodes after each position, and of those at the beginning of the rules and of what is inside a position.
module _ (game : AbstractGame) (lists : Lists) (table : Table) (are : AreListsOf game.rules lists) (filled : IsFilled game lists table) where
  abbrev entries : List Entry
  entries = table.entries.items

  size : length entries ≡ length lists.interner.nodes.items * table.vertices
  size = filled.sound.laid_out.size

  pub after_rows : All (λ n. n * table.vertices + table.vertices ≤ length table.entries.items) lists.afters.items
  after_rows =
      rows_there_by game.rules lists table.vertices entries size lists.afters.items after (λ p below. are.nodes.after_each p (let size = are.nodes.afters_size in omega (arith, size, below)))

  pub inside_rows : All (λ n. n * table.vertices ≤ length table.entries.items) lists.insides.items
  inside_rows = λ i d below.
      let rows = rows_there_by game.rules lists table.vertices entries size lists.insides.items (λ p. beginning (inside p)) (λ p small. are.nodes.inside_each p (let size = are.nodes.insides_size in omega (arith, size, small))) in
      let row = rows i d below in
      omega (arith, row)

  pub first_row : lists.rules * table.vertices ≤ length table.entries.items
  first_row =
      let row = row_there table.vertices entries (length lists.interner.nodes.items) lists.rules size are.nodes.begins.there in
      omega (arith, row)
