-- If all was gathered, nothing is missing, and that stays so.
use Rattle.rbg_base.proofs.Common.{◌≡◌, ◌≢◌, ℕ, ◌+◌, ◌-◌, ◌*◌, ◌<◌, ◌≤◌, ◌⊎◌, List, length, get_or, set, Bool, true, false, refl, sym, ap, ◌∙◌, subst, inl, inr, zero, suc, arith, All, Contains, IsTrue, replicate, All-contains}
use Rattle.std.proofs.lemmas.List.{get_or-set_same, get_or-set_other}
use Rattle.rbg_rules.specs.Meaning.{AbstractGame}
use Rattle.rbg_shifts.proofs.Common.{Lists, Entry, Table, Target, end_of, IsWithin, IsShiftAt, no_entry, list_at, may_end_at, Comes, EndsBy, IsOnly, entry_at, HasEnd, IsSoundTable, IsSoundEntry, IsGathered, IsUnder, RecordsStep, RecordsStepFrom, IsWhole, IsWholeFrom, IsClosed, Keeps, Grows, Shares, KeepsRecorded, AddsAll, LeadsBack, LeadsForth, LeadsOneWay, Fills, FillsOne, FillsUpTo, FillsDownTo, FillsRightly, IsMarked, LeadsToMarked, AreFilled}
use Rattle.rbg_shifts.proofs.Places.{below_or_not, same_or_not, one_place, same_item, LastPlace, before, last, last_place}
use Rattle.rbg_shifts.proofs.Tabling.{entry_gathered, entry_same, entry_within, table_grown, table_shared, whole_end, within_at}
use Rattle.rbg_shifts.proofs.Targets.{keeps_none, keeps_same, keeps_more, keeps_fewer, tells_kept, tells_before}

-- Targets still record what one step leads to, if they record no less than before, and the entries to which shifts lead
-- record no more.
pub told_on : (game : AbstractGame) (lists : Lists) (place : ℕ) (old new : Table) (from to from_new to_new : ℕ) (one two : Bool) (v p : ℕ) → All (IsWithin place) old.entries.items → new.vertices ≡ old.vertices → Keeps place old.targets.items new.targets.items → ((j u : ℕ) → HasEnd old.targets.items from to j u → HasEnd new.targets.items from_new to_new j u) → (IsTrue one → IsTrue two) → ((w : ℕ) → IsShiftAt game.rules p → Comes game v p w → w < old.vertices → (entry_at new (get_or lists.afters.items p 0) w ≡ entry_at old (get_or lists.afters.items p 0) w) ⊎ IsUnder new (entry_at new (get_or lists.afters.items p 0) w) from_new to_new two) → RecordsStep game lists old from to one v p → RecordsStep game lists new from_new to_new two v p
told_on game lists place old new from to from_new to_new one two v p inside vertices targets keeps more same is = record {
  plain = λ other. keeps p v (is.plain other);
  is_vertex = λ w s comes. subst (λ (k : ℕ). w < k) (sym vertices) (is.is_vertex w s comes);
  shift = λ w s comes. still w (is.shift w s comes) (same w s comes (is.is_vertex w s comes));
}
  where
    k : ℕ
    k = get_or lists.afters.items p 0

    under : (w : ℕ) → IsUnder old (entry_at old k w) from to one → IsUnder new (entry_at old k w) from_new to_new two
    under w is_under = record {
      tells = λ j u told.
          keeps j u (is_under.tells j u (tells_before place old.targets.items new.targets.items (entry_at old k w).start (end_of (entry_at old k w)) targets (entry_within place old inside k w).ends j u told));
      ends = λ t. more (is_under.ends t);
    }

    still : (w : ℕ) → IsUnder old (entry_at old k w) from to one → (entry_at new k w ≡ entry_at old k w) ⊎ IsUnder new (entry_at new k w) from_new to_new two → IsUnder new (entry_at new k w) from_new to_new two
    still w was (inl e) = subst (λ (x : Entry). IsUnder new x from_new to_new two) (sym e) (under w was)
    still w was (inr now) = now

-- .. at each position of a list.
pub all_told_on : (game : AbstractGame) (lists : Lists) (old new : Table) (from to from_new to_new : ℕ) (one two : Bool) (v : ℕ) (list : List ℕ) → ((p : ℕ) → Contains list p → RecordsStep game lists old from to one v p → RecordsStep game lists new from_new to_new two v p) → All (RecordsStep game lists old from to one v) list → All (RecordsStep game lists new from_new to_new two v) list
all_told_on game lists old new from to from_new to_new one two v list step all = λ k d below. step (get_or list k d) (k, below, same_item list k (get_or list k d) below ∙ sym (same_item list k d below)) (all k d below)

-- If nothing was missing, nothing is missing after other entries were filled.
pub closed_on : (game : AbstractGame) (lists : Lists) (old new : Table) (n v : ℕ) → new.vertices ≡ old.vertices → Keeps (length old.targets.items) old.targets.items new.targets.items → entry_at new n v ≡ entry_at old n v → ((p w : ℕ) → Contains (list_at lists.interner n) p → IsShiftAt game.rules p → Comes game v p w → w < old.vertices → entry_at new (get_or lists.afters.items p 0) w ≡ entry_at old (get_or lists.afters.items p 0) w) → IsClosed game lists old n v → IsClosed game lists new n v
closed_on game lists old new n v vertices targets here same is =
    subst (λ (e : Entry). IsWhole game lists new n v e.start (end_of e) e.ends) (sym here) (record {
      ends = is.ends;
      told = all_told_on game lists old new e.start (end_of e) e.start (end_of e) e.ends e.ends v (list_at lists.interner n)
          (λ p there. told_on game lists (length old.targets.items) old new e.start (end_of e) e.start (end_of e) e.ends e.ends v p old.within vertices targets
          (tells_kept (length old.targets.items) old.targets.items new.targets.items e.start (end_of e) targets (within_at old n v).ends) (λ t. t) (λ w s comes small. inl (same p w there s comes small))) is.told;
    })
  where
    e : Entry
    e = entry_at old n v

pub closed_beside : (game : AbstractGame) (lists : Lists) (old new : Table) (m n v : ℕ) → Fills old new m → n ≢ m → v < old.vertices → ((p : ℕ) → Contains (list_at lists.interner n) p → IsShiftAt game.rules p → get_or lists.afters.items p 0 ≢ m) → IsClosed game lists old n v → IsClosed game lists new n v
closed_beside game lists old new m n v fills differ below apart is =
    closed_on game lists old new n v fills.vertices fills.targets (fills.others n v differ below) (λ p w there s comes small. fills.others (get_or lists.afters.items p 0) w (apart p there s) small) is

-- Entries that are filled one after the other.
pub fills_none : (t : Table) (n : ℕ) → Fills t t n
fills_none t n = record { vertices = refl; targets = keeps_none (length t.targets.items) t.targets.items; others = λ m w differ below. refl }

pub fills_more : (a b c : Table) (n : ℕ) → Fills a b n → Fills b c n → Fills a c n
fills_more a b c n first second = record {
  vertices = second.vertices ∙ first.vertices;
  targets =
      keeps_more (length a.targets.items) a.targets.items b.targets.items c.targets.items first.targets
      (keeps_fewer (length a.targets.items) (length b.targets.items) b.targets.items c.targets.items first.targets.size second.targets);
  others = λ m w differ below. second.others m w differ (subst (λ (k : ℕ). w < k) (sym first.vertices) below) ∙ first.others m w differ below;
}

pub no_vertex : (game : AbstractGame) (lists : Lists) (t : Table) (n : ℕ) → IsSoundTable game lists t → FillsUpTo game lists t t n 0
no_vertex game lists t n sound = record { sound = sound; fills = fills_none t n; closed = λ back v below. absurd (omega (arith, below)) }

-- A vertex that was filled stays so when another one of its node is filled, if no shift leads there.
closed_still : (game : AbstractGame) (lists : Lists) (b c : Table) (n v u : ℕ) → FillsOne game lists b c n u → v ≢ u → v < b.vertices → ((p w : ℕ) → Contains (list_at lists.interner n) p → IsShiftAt game.rules p → get_or lists.afters.items p 0 ≡ n → Comes game v p w → w ≢ u) → IsClosed game lists b n v → IsClosed game lists c n v
closed_still game lists b c n v u now differ small elsewhere was =
    closed_on game lists b c n v now.fills.vertices now.fills.targets (now.beside v differ small)
    (λ p w there s comes below. same p w there s comes below (same_or_not (get_or lists.afters.items p 0) n)) was
  where
    same : (p w : ℕ) → Contains (list_at lists.interner n) p → IsShiftAt game.rules p → Comes game v p w → w < b.vertices → (get_or lists.afters.items p 0 ≡ n) ⊎ (get_or lists.afters.items p 0 ≢ n) → entry_at c (get_or lists.afters.items p 0) w ≡ entry_at b (get_or lists.afters.items p 0) w
    same p w there s comes below (inl e) = subst (λ (k : ℕ). entry_at c k w ≡ entry_at b k w) (sym e) (now.beside w (elsewhere p w there s e comes) below)
    same p w there s comes below (inr other) = now.fills.others (get_or lists.afters.items p 0) w other below

pub one_more_vertex : (game : AbstractGame) (lists : Lists) (a b c : Table) (n many : ℕ) → many < length game.board.first → FillsUpTo game lists a b n many → FillsOne game lists b c n many → FillsUpTo game lists a c n (many + 1)
one_more_vertex game lists a b c n many inside so_far now = record {
  sound = now.sound;
  fills = fills_more a b c n so_far.fills now.fills;
  closed = λ back v below. at back v (last_place many v below);
}
  where
    small : (v : ℕ) → v < many → v < b.vertices
    small v below = let vertices = so_far.sound.laid_out.vertices in omega (arith, below, inside, vertices)

    earlier : (v w : ℕ) → v < many → w ≤ v → w ≢ many
    earlier v w below less same = absurd (omega (arith, below, less, same))

    at : LeadsBack game lists n → (v : ℕ) → LastPlace many v → IsClosed game lists c n v
    at back v (last e) = subst (IsClosed game lists c n) (sym e) now.closed
    at back v (before below) =
        closed_still game lists b c n v many now (earlier v v below (omega arith)) (small v below)
        (λ p w there s again comes. earlier v w below (back p there s again v w (omega (arith, below, inside)) comes)) (so_far.closed back v below)

pub down_none : (game : AbstractGame) (lists : Lists) (t : Table) (n : ℕ) → IsSoundTable game lists t → FillsDownTo game lists t t n 0
down_none game lists t n sound = record { sound = sound; fills = fills_none t n; closed = λ forth v below from. absurd (omega (arith, below, from)) }

pub one_vertex_before : (game : AbstractGame) (lists : Lists) (a b c : Table) (n many u : ℕ) → u + many + 1 ≡ length game.board.first → FillsDownTo game lists a b n many → FillsOne game lists b c n u → FillsDownTo game lists a c n (many + 1)
one_vertex_before game lists a b c n many u here so_far now = record {
  sound = now.sound;
  fills = fills_more a b c n so_far.fills now.fills;
  closed = λ forth v below from. at forth v below from (same_or_not v u);
}
  where
    small : (v : ℕ) → v < length game.board.first → v < b.vertices
    small v below = subst (λ (k : ℕ). v < k) (sym so_far.sound.laid_out.vertices) below

    later : (v w : ℕ) → length game.board.first ≤ v + many → v ≤ w → w ≢ u
    later v w from more same = absurd (omega (arith, from, more, same, here))

    beyond : (v : ℕ) → length game.board.first ≤ v + (many + 1) → v ≢ u → (u < v) ⊎ (v ≤ u) → length game.board.first ≤ v + many
    beyond v from differ (inl more) = omega (arith, more, here)
    beyond v from differ (inr less) = absurd (differ (omega (arith, less, from, here)))

    at : LeadsForth game lists n → (v : ℕ) → v < length game.board.first → length game.board.first ≤ v + (many + 1) → (v ≡ u) ⊎ (v ≢ u) → IsClosed game lists c n v
    at forth v below from (inl e) = subst (IsClosed game lists c n) (sym e) now.closed
    at forth v below from (inr differ) =
        let beyond : length game.board.first ≤ v + many = beyond v from differ (below_or_not u v) in
        closed_still game lists b c n v u now differ (small v below)
        (λ p w there s again comes. later v w beyond (forth p there s again v w below comes)) (so_far.closed forth v below beyond)

-- An entry that was put into a table.
entry_apart : (old new : Table) (n v m w : ℕ) → new.vertices ≡ old.vertices → ((i : ℕ) → i ≢ n * old.vertices + v → get_or new.entries.items i no_entry ≡ get_or old.entries.items i no_entry) → m * old.vertices + w ≢ n * old.vertices + v → entry_at new m w ≡ entry_at old m w
entry_apart old new n v m w vertices others differ = ap (λ (k : ℕ). get_or new.entries.items (m * k + w) no_entry) vertices ∙ others (m * old.vertices + w) differ

entry_here : (old new : Table) (n v m w : ℕ) → new.vertices ≡ old.vertices → m * old.vertices + w ≡ n * old.vertices + v → entry_at new m w ≡ entry_at new n v
entry_here old new n v m w vertices same =
    ap (λ (i : ℕ). get_or new.entries.items i no_entry)
    (subst (λ (k : ℕ). m * k + w ≡ n * k + v) (sym vertices) same)

other_node : (vertices n v m w : ℕ) → v < vertices → w < vertices → m ≢ n → m * vertices + w ≢ n * vertices + v
other_node vertices n v m w below small differ same = differ (one_place vertices w v m n small below same).0

other_vertex : (vertices n v w : ℕ) → w ≢ v → n * vertices + w ≢ n * vertices + v
other_vertex vertices n v w differ same = differ (omega (arith, same))

-- Targets still record what one step leads to after more targets were added.
pub told_grown : (game : AbstractGame) (lists : Lists) (start : ℕ) (old new : Table) (one two : Bool) (v p : ℕ) → All (IsWithin start) old.entries.items → Grows start old new → KeepsRecorded start old new → (IsTrue one → IsTrue two) → RecordsStepFrom game lists old start one v p → RecordsStepFrom game lists new start two v p
told_grown game lists start old new one two v p inside grows kept more is =
    told_on game lists start old new start (length old.targets.items) start (length new.targets.items) one two v p inside grows.vertices grows.targets kept.tells more (λ w s comes small. inl (entry_same start old new grows (get_or lists.afters.items p 0) w)) is

pub raise_end : (game : AbstractGame) (lists : Lists) (t : Table) (from to : ℕ) (one two : Bool) (v p : ℕ) → (IsTrue one → IsTrue two) → RecordsStep game lists t from to one v p → RecordsStep game lists t from to two v p
raise_end game lists t from to one two v p more is = record {
  plain = is.plain;
  is_vertex = is.is_vertex;
  shift = λ w s comes. let under = is.shift w s comes in record { tells = under.tells; ends = λ u. more (under.ends u) };
}

-- A position that is no shift is recorded by a target with the vertex.
pub told_plain : (game : AbstractGame) (lists : Lists) (t : Table) (from to : ℕ) (may_end : Bool) (v p : ℕ) → ¬ IsShiftAt game.rules p → HasEnd t.targets.items from to p v → RecordsStep game lists t from to may_end v p
told_plain game lists t from to may_end v p other told = record {
  plain = λ is_other. told;
  is_vertex = λ w s comes. absurd (other s);
  shift = λ w s comes. absurd (other s);
}

-- A shift that leads nowhere leaves nothing to record.
pub told_nowhere : (game : AbstractGame) (lists : Lists) (t : Table) (from to : ℕ) (may_end : Bool) (v p : ℕ) → IsShiftAt game.rules p → ((w : ℕ) → ¬ Comes game v p w) → RecordsStep game lists t from to may_end v p
told_nowhere game lists t from to may_end v p is nowhere = record {
  plain = λ other. absurd (other is);
  is_vertex = λ w s comes. absurd (nowhere w comes);
  shift = λ w s comes. absurd (nowhere w comes);
}

-- A shift that leads to one vertex, if all that is recorded there was added.
pub told_after : (game : AbstractGame) (lists : Lists) (t : Table) (from to : ℕ) (may_end : Bool) (v p there : ℕ) → IsShiftAt game.rules p → ((w : ℕ) → Comes game v p w → w ≡ there) → there < t.vertices → IsUnder t (entry_at t (get_or lists.afters.items p 0) there) from to may_end → RecordsStep game lists t from to may_end v p
told_after game lists t from to may_end v p there is only small under = record {
  plain = λ other. absurd (other is);
  is_vertex = λ w s comes. subst (λ (x : ℕ). x < t.vertices) (sym (only w comes)) small;
  shift = λ w s comes. subst (λ (x : ℕ). IsUnder t (entry_at t (get_or lists.afters.items p 0) x) from to may_end) (sym (only w comes)) under;
}

-- All targets of an entry were added.
pub added_under : (start : ℕ) (old new : Table) (e : Entry) → IsWithin start e → AddsAll start old.targets.items new.targets.items e.start (end_of e) → IsUnder new e start (length new.targets.items) e.ends
added_under start old new e within adds = record {
  tells = λ j u told. adds.has j u (tells_before start old.targets.items new.targets.items e.start (end_of e) adds.keeps within.ends j u told);
  ends = λ t. t;
}

-- The entry of a node and a vertex was put in its place, after a table that grew.
pub one_put : (game : AbstractGame) (lists : Lists) (old middle new : Table) (n v : ℕ) (e : Entry) → v < old.vertices → Grows (length old.targets.items) old middle → Shares middle new n v e → IsSoundTable game lists middle → IsSoundEntry game (list_at lists.interner n) (may_end_at lists.interner n) v middle e → IsWhole game lists middle n v e.start (end_of e) e.ends → FillsOne game lists old new n v
one_put game lists old middle new n v e below grows shares sound right whole = record {
  sound = table_shared game lists middle new n v e (inside v below) sound shares right;
  fills = record {
    vertices = shares.vertices ∙ grows.vertices;
    targets = keeps_more (length old.targets.items) old.targets.items middle.targets.items new.targets.items grows.targets (keeps_same (length old.targets.items) middle.targets.items new.targets.items shares.are_targets);
    others = λ m w differ small. beside m w (other_node middle.vertices n v m w (inside v below) (inside w small) differ) ∙ entry_same (length old.targets.items) old middle grows m w;
  };
  beside = λ w differ small. beside n w (other_vertex middle.vertices n v w differ) ∙ entry_same (length old.targets.items) old middle grows n w;
  closed =
      subst (λ (x : Entry). IsWhole game lists new n v x.start (end_of x) x.ends) (sym shares.here) (record {
        ends = whole.ends;
        told = all_told_on game lists middle new e.start (end_of e) e.start (end_of e) e.ends e.ends v (list_at lists.interner n)
            (λ p there. told_on game lists (length middle.targets.items) middle new e.start (end_of e) e.start (end_of e) e.ends e.ends v p middle.within shares.vertices (keeps_same (length middle.targets.items) middle.targets.items new.targets.items shares.are_targets)
            (λ j u told. subst (λ (ts : List Target). HasEnd ts e.start (end_of e) j u) (sym shares.are_targets) told) (λ t. t)
            (λ w s comes small. either (get_or lists.afters.items p 0) w (same_or_not (get_or lists.afters.items p 0 * middle.vertices + w) (n * middle.vertices + v)))) whole.told;
      });
}
  where
    inside : (w : ℕ) → w < old.vertices → w < middle.vertices
    inside w small = subst (λ (k : ℕ). w < k) (sym grows.vertices) small

    beside : (m w : ℕ) → m * middle.vertices + w ≢ n * middle.vertices + v → entry_at new m w ≡ entry_at middle m w
    beside m w differ = entry_apart middle new n v m w shares.vertices shares.others differ

    under_itself : IsUnder new e e.start (end_of e) e.ends
    under_itself = record { tells = λ j u told. told; ends = λ is. is }

    either : (m w : ℕ) → (m * middle.vertices + w ≡ n * middle.vertices + v) ⊎ (m * middle.vertices + w ≢ n * middle.vertices + v) → (entry_at new m w ≡ entry_at middle m w) ⊎ IsUnder new (entry_at new m w) e.start (end_of e) e.ends
    either m w (inl same) = inr (subst (λ (x : Entry). IsUnder new x e.start (end_of e) e.ends) (sym (entry_here middle new n v m w shares.vertices same ∙ shares.here)) under_itself)
    either m w (inr differ) = inl (beside m w differ)

-- A list that has one item.
only_item : (xs : List ℕ) (x : ℕ) → length xs ≡ 1 → get_or xs 0 x ≡ x → (k d : ℕ) → k < length xs → get_or xs k d ≡ x
only_item xs x one is k d there =
    let first : k ≡ 0 = omega (arith, one, there) in
    let here : 0 < length xs = omega (arith, one) in
    ap (λ (i : ℕ). get_or xs i d) first ∙ same_item xs 0 d here ∙ sym (same_item xs 0 x here) ∙ is

-- The entry with all targets from a place on records what was gathered from there on.
pub whole_put : (game : AbstractGame) (lists : Lists) (t : Table) (start n v : ℕ) (ends : Bool) → start ≤ length t.targets.items → IsWholeFrom game lists t start n v ends → IsWhole game lists t n v start (start + (length t.targets.items - start)) ends
whole_put game lists t start n v ends inside whole = subst (λ (to : ℕ). IsWhole game lists t n v start to ends) (sym (whole_end start (length t.targets.items) inside)) whole

-- An entry was put in its place with all that was gathered after the targets that were there.
pub one_filled : (game : AbstractGame) (lists : Lists) (old middle new : Table) (start n v : ℕ) (ends : Bool) → start ≡ length old.targets.items → v < length game.board.first → IsSoundTable game lists old → Grows start old middle → Shares middle new n v (record { start = start; many = length middle.targets.items - start; ends = ends }) → IsGathered game lists middle start n v → (IsTrue ends → EndsBy game (list_at lists.interner n) (may_end_at lists.interner n) v) → IsWholeFrom game lists middle start n v ends → FillsOne game lists old new n v
one_filled game lists old middle new start n v ends at_end below sound grows shares gathered end whole =
    one_put game lists old middle new n v e (subst (λ (k : ℕ). v < k) (sym sound.laid_out.vertices) below)
    (subst (λ (k : ℕ). Grows k old middle) at_end grows) shares
    (table_grown game lists start old middle (subst (λ (k : ℕ). All (IsWithin k) old.entries.items) (sym at_end) old.within) grows sound)
    (entry_gathered game lists middle start n v ends inside gathered end)
    (whole_put game lists middle start n v ends inside whole)
  where
    inside : start ≤ length middle.targets.items
    inside = let size = grows.targets.size in omega (arith, at_end, size)

    e : Entry
    e = record { start = start; many = length middle.targets.items - start; ends = ends }

-- What is recorded of the only position of a list is all that there is to record.
pub whole_of_one : (game : AbstractGame) (lists : Lists) (t : Table) (n v p from to : ℕ) (ends : Bool) → IsOnly (list_at lists.interner n) p → (IsTrue (may_end_at lists.interner n) → IsTrue ends) → RecordsStep game lists t from to ends v p → IsWhole game lists t n v from to ends
whole_of_one game lists t n v p from to ends only end told = record {
  ends = end;
  told = λ k d there. subst (RecordsStep game lists t from to ends v) (sym (only_item (list_at lists.interner n) p only.one only.listed k d there)) told;
}

-- The only position of a list is listed.
pub only_listed : (xs : List ℕ) (p : ℕ) → IsOnly xs p → Contains xs p
only_listed xs p only = (0, let one = only.one in omega (arith, one), only.listed)

-- Marked nodes stay as they are when another node is filled.
pub filled_on : (game : AbstractGame) (lists : Lists) (old new : Table) (marks : List Bool) (m : ℕ) → ¬ IsMarked marks m → FillsRightly game lists old new m → AreFilled game lists old marks → AreFilled game lists new marks
filled_on game lists old new marks m unmarked right are = record {
  sound = right.sound;
  next = are.next;
  closed = λ n v marked one_way below.
      closed_beside game lists old new m n v right.fills (other n marked) (subst (λ (k : ℕ). v < k) (sym are.sound.laid_out.vertices) below)
      (λ p there s. apart n p marked there s (same_or_not (get_or lists.afters.items p 0) n)) (are.closed n v marked one_way below);
}
  where
    other : (n : ℕ) → IsMarked marks n → n ≢ m
    other n marked e = unmarked (subst (IsMarked marks) e marked)

    apart : (n p : ℕ) → IsMarked marks n → Contains (list_at lists.interner n) p → IsShiftAt game.rules p → (get_or lists.afters.items p 0 ≡ n) ⊎ (get_or lists.afters.items p 0 ≢ n) → get_or lists.afters.items p 0 ≢ m
    apart n p marked there s (inl e) is = other n marked (sym e ∙ is)
    apart n p marked there s (inr differ) is = other (get_or lists.afters.items p 0) (are.next n marked p there s differ) is

-- .. and one more is marked.
pub one_marked : (game : AbstractGame) (lists : Lists) (old new : Table) (marks : List Bool) (m : ℕ) → m < length marks → ¬ IsMarked marks m → LeadsToMarked game lists marks m → FillsRightly game lists old new m → (LeadsOneWay game lists m → (v : ℕ) → v < length game.board.first → IsClosed game lists new m v) → AreFilled game lists old marks → AreFilled game lists new (set marks m true)
one_marked game lists old new marks m there unmarked leads right closed are = record {
  sound = right.sound;
  next = λ n marked p listed s differ. still (get_or lists.afters.items p 0) (next_by n p (same_or_not n m) marked listed s differ);
  closed = λ n v marked one_way below. closed_by n v (same_or_not n m) marked one_way below;
}
  where
    kept : AreFilled game lists new marks
    kept = filled_on game lists old new marks m unmarked right are

    before_it : (n : ℕ) → n ≢ m → IsMarked (set marks m true) n → IsMarked marks n
    before_it n differ marked = sym (get_or-set_other marks m n true false differ) ∙ marked

    still_by : (n : ℕ) → (n ≡ m) ⊎ (n ≢ m) → IsMarked marks n → IsMarked (set marks m true) n
    still_by n (inl e) marked = ap (λ (i : ℕ). get_or (set marks m true) i false) e ∙ get_or-set_same marks m true false there
    still_by n (inr differ) marked = get_or-set_other marks m n true false differ ∙ marked

    still : (n : ℕ) → IsMarked marks n → IsMarked (set marks m true) n
    still n marked = still_by n (same_or_not n m) marked

    next_by : (n p : ℕ) → (n ≡ m) ⊎ (n ≢ m) → IsMarked (set marks m true) n → Contains (list_at lists.interner n) p → IsShiftAt game.rules p → get_or lists.afters.items p 0 ≢ n → IsMarked marks (get_or lists.afters.items p 0)
    next_by n p (inl e) marked listed s differ = subst (λ (k : ℕ). LeadsToMarked game lists marks k) (sym e) leads p listed s differ
    next_by n p (inr other) marked listed s differ = are.next n (before_it n other marked) p listed s differ

    closed_by : (n v : ℕ) → (n ≡ m) ⊎ (n ≢ m) → IsMarked (set marks m true) n → LeadsOneWay game lists n → v < length game.board.first → IsClosed game lists new n v
    closed_by n v (inl e) marked one_way below = subst (λ (k : ℕ). IsClosed game lists new k v) (sym e) (closed (subst (LeadsOneWay game lists) e one_way) v below)
    closed_by n v (inr other) marked one_way below = kept.closed n v (before_it n other marked) one_way below

-- Shifts that lead one way, and not forth, lead back.
pub if_back : (game : AbstractGame) (lists : Lists) (n : ℕ) → LeadsOneWay game lists n → (LeadsForth game lists n → ⊥) → LeadsBack game lists n
if_back game lists n (inl back) other = back
if_back game lists n (inr forth) other = absurd (other forth)

-- One fill after another, and none at all.
pub rightly_none : (game : AbstractGame) (lists : Lists) (t : Table) (n : ℕ) → IsSoundTable game lists t → FillsRightly game lists t t n
rightly_none game lists t n sound = record { sound = sound; fills = fills_none t n }

pub rightly_more : (game : AbstractGame) (lists : Lists) (a b c : Table) (n : ℕ) → Fills a b n → FillsRightly game lists b c n → FillsRightly game lists a c n
rightly_more game lists a b c n first second = record { sound = second.sound; fills = fills_more a b c n first second.fills }

pub rightly_up_to : (game : AbstractGame) (lists : Lists) (old new : Table) (n many : ℕ) → FillsUpTo game lists old new n many → FillsRightly game lists old new n
rightly_up_to game lists old new n many up_to = record { sound = up_to.sound; fills = up_to.fills }

-- At first no node is marked.
pub none_marked : (game : AbstractGame) (lists : Lists) (t : Table) (many : ℕ) → IsSoundTable game lists t → AreFilled game lists t (replicate many false)
none_marked game lists t many sound = record {
  sound = sound;
  next = λ n marked. absurd (not_marked n marked);
  closed = λ n v marked. absurd (not_marked n marked);
}
  where
    all_false : (k i : ℕ) → get_or (replicate k false) i false ≡ false
    all_false zero i = refl
    all_false (suc k) zero = refl
    all_false (suc k) (suc i) = all_false k i

    not_both : {b : Bool} → b ≡ true → b ≡ false → ⊥
    not_both e f = cc

    not_marked : (n : ℕ) → IsMarked (replicate many false) n → ⊥
    not_marked n marked = not_both marked (all_false many n)

-- A list contains its items.
pub is_listed : (xs : List ℕ) (i : ℕ) → i < length xs → Contains xs (get_or xs i 0)
is_listed xs i below = (i, below, same_item xs i (get_or xs i 0) below)

-- What is so of each item is so of what the list contains, under the name of which it was asked.
pub each_listed : (P : ℕ → Type 0) {xs ys : List ℕ} → xs ≡ ys → ((i : ℕ) → i < length xs → P (get_or xs i 0)) → (p : ℕ) → Contains ys p → P p
each_listed P {xs} same each p there = All-contains P xs p (λ k d below. subst P (sym (same_item xs k d below)) (each k below)) (subst (λ (zs : List ℕ). Contains zs p) (sym same) there)
