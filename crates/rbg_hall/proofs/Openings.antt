-- The parts of a new hall.
use Rattle.rbg_base.proofs.Common.{◌≡◌, ◌≢◌, ℕ, false, Result, Ok, Err, zero, suc, ◌+◌, ◌<◌, ◌≤◌, List, [], ◌∷◌, ◌++◌, length, map, reverse, get_or, set, refl, sym, ap, ◌∙◌, subst, append_assoc, arith, Some, inl, inr, replicate, All, cases_lt, All-map, All-nil, All-replicate, All-set, none-some, slice_get, IfErr, IsErrAnd}
use Rattle.std.proofs.lemmas.List.{map-append, length-map, length-replicate, length-set, reverse-append}
use Rattle.rbg_hall.proofs.Places.{there_within}
use Rattle.rbg_wire.specs.Streams.{incomplete}
use Rattle.rbg_match.specs.Config.{IsWithinLimits}
use Rattle.rbg_hall.proofs.TableCommon.{lines_in_all, new_table}
use Rattle.rbg_hall.specs.Kept.{KeptState, no_log}
use Rattle.rbg_hall.proofs.Common.{HallError, Config, Memory, Tables, LinePhase, Table, AbstractTable, new_hall, silent, AreWithinLimits, IsNewHall, IsRefusedHall, MayBeTables, memory, start_of, starts_of, HeldHall, most_tables, AreReady, FirstHaveLimits, HaveLimits, IsFaulty, IsReady, ledgers_of, line_of, lines_of, new_kept, new_line, new_tables, states_of}
use Rattle.rbg_hall.specs.Openings.{tables as refused_tables, config as refused_config}

get_of : {X : Type 0} (xs : List X) (i : ℕ) (d x : X) → slice_get xs i ≡ Some x → get_or xs i d ≡ x
get_of [] i d x there = absurd (none-some x there)
get_of (y ∷ xs) zero d x there = cc
get_of (y ∷ xs) (suc i) d x there = get_of xs i d x there

there_get : {X : Type 0} (xs : List X) (i : ℕ) (d : X) → i < length xs → slice_get xs i ≡ Some (get_or xs i d)
there_get [] i d within = absurd (omega arith)
there_get (y ∷ xs) zero d within = refl
there_get (y ∷ xs) (suc i) d within = there_get xs i d (omega arith)

pub fault_found : (tables : List Table) (index : ℕ) (read : Table) → read ≡ get_or tables index read → index < length tables → (¬ IsWithinLimits read.config) → FirstHaveLimits index tables → IsFaulty tables index
fault_found tables index read found within faulty first = record {
  table = read;
  there = there_get tables index read within ∙ ap Some (sym found);
  faulty = faulty;
  first = first;
}

pub one_more : (tables : List Table) (index : ℕ) (read : Table) → read ≡ get_or tables index read → IsWithinLimits read.config → FirstHaveLimits index tables → FirstHaveLimits (index + 1) tables
one_more tables index read found limits first other table within there = elim (cases_lt other index) [
  | inl before ↦ first other table before there
  | inr last ↦ (let same : other ≡ index = omega arith in
      let here : slice_get tables index ≡ Some table = subst (λ one. slice_get tables one ≡ Some table) same there in
      subst (λ (one : Table). IsWithinLimits one.config) (found ∙ get_of tables index read table here) limits)
]

pub all_have : (tables : List Table) (count : ℕ) → length tables ≤ count → FirstHaveLimits count tables → HaveLimits tables
all_have tables count past first k d within = first k (get_or tables k d) (omega arith) (there_get tables k d within)

pub starts_within : (tables : List Table) → HaveLimits tables → AreWithinLimits (starts_of tables)
starts_within tables limits = All-map (λ (start : AbstractTable). IsWithinLimits start.config) start_of tables limits

pub starts_new : (W : Type 0) (tables : List Table) → states_of (new_tables {W = W} tables) ≡ (new_hall (starts_of tables)).tables
starts_new W [] = refl
starts_new W (table ∷ tables) = ap (λ others. new_table table.game table.text.items table.config ∷ others) (starts_new W tables)

pub ledgers_new : {W : Type 0} (tables : List Table) → ledgers_of (new_tables {W = W} tables) ≡ map (λ _. no_log) (starts_of tables)
ledgers_new [] = refl
ledgers_new {W} (table ∷ tables) = ap (λ others. no_log ∷ others) (ledgers_new {W = W} tables)

pub fault_there : (tables : List Table) (index : ℕ) (table : Table) → slice_get tables index ≡ Some table → slice_get (starts_of tables) index ≡ Some (start_of table)
fault_there [] index table there = absurd (none-some table there)
fault_there (one ∷ tables) zero table there = ap (λ (o : Table). Some (start_of o)) same
  where
    same : one ≡ table
    same = cc
fault_there (one ∷ tables) (suc index) table there = fault_there tables index table there

pub lines_ready : (tables : ℕ) (lines : List LinePhase) → lines ≡ replicate lines_in_all new_line → AreReady tables lines
lines_ready tables lines are = record {
  count = ap length are ∙ length-replicate lines_in_all new_line;
  each = subst (All (IsReady tables)) (sym are) (All-replicate (IsReady tables) lines_in_all new_line (record { limit = refl; empty = refl; short = (omega arith, All-nil (λ byte. byte ≢ 0)) }));
}

-- a ready line in the place of another one, where there are as many tables as before
pub ready_with : (old new : ℕ) (lines : List LinePhase) (line : ℕ) (next : LinePhase) → AreReady old lines → IsReady old next → new ≡ old → AreReady new (set lines line next)
ready_with old new lines line next are ready same =
    subst (λ (n : ℕ). AreReady n (set lines line next)) (sym same) (record {
      count = length-set lines line next ∙ are.count;
      each = All-set (IsReady old) lines line next ready are.each;
    })

map_replicate : {X Y : Type 0} (f : X → Y) (n : ℕ) (x : X) → map f (replicate n x) ≡ replicate n (f x)
map_replicate f zero x = refl
map_replicate f (suc n) x = ap (λ others. f x ∷ others) (map_replicate f n x)

pub lines_new : (lines : List LinePhase) → lines ≡ replicate lines_in_all new_line → lines_of lines ≡ replicate lines_in_all (silent (incomplete []))
lines_new lines are = ap lines_of are ∙ map_replicate line_of lines_in_all new_line

-- tables are opened from the last to the first
pub opened_one : {W : Type 0} (tables left rest : List Table) (table : Table) (opened more : List (KeptState W)) (one : KeptState W) → new_tables tables ≡ new_tables left ++ reverse opened → left ≡ rest ++ table ∷ [] → more ≡ opened ++ one ∷ [] → one ≡ new_kept table → new_tables tables ≡ new_tables rest ++ reverse more
opened_one {W} tables left rest table opened more one so_far popped pushed is =
    so_far
    ∙ ap (λ all. new_tables all ++ reverse opened) popped
    ∙ ap (λ all. all ++ reverse opened) (map-append (λ (table : Table). new_kept {W = W} table) rest (table ∷ []))
    ∙ append_assoc (new_tables rest) (new_kept table ∷ []) (reverse opened)
    ∙ ap (λ (first : KeptState W). new_tables rest ++ (first ∷ reverse opened)) (sym is)
    ∙ ap (λ last. new_tables rest ++ last) (sym (ap reverse pushed ∙ reversed opened one))
  where
    reversed : (xs : List (KeptState W)) (x : KeptState W) → reverse (xs ++ x ∷ []) ≡ x ∷ reverse xs
    reversed xs x = reverse-append xs (x ∷ [])

pub memory_refused : (starts : List AbstractTable) (error : HallError) → error ≡ Memory → IsRefusedHall starts error
memory_refused starts error is = subst (IsRefusedHall starts) (sym is) memory

pub memory_passed : {T : Type 0} (starts : List AbstractTable) (result : Result T HallError) → IsErrAnd result (λ (error : HallError). error ≡ Memory) → IfErr result (IsRefusedHall starts)
memory_passed starts (Ok made) it = tt
memory_passed starts (Err error) it = memory_refused starts error it

-- too many tables, or none
pub no_table_refused : (tables : List Table) → length tables ≡ 0 → IsRefusedHall (starts_of tables) Tables
no_table_refused tables none = refused_tables (λ may. absurd (omega (arith, may.0, length-map tables start_of)))

pub too_many_refused : (tables : List Table) → most_tables < length tables → IsRefusedHall (starts_of tables) Tables
too_many_refused tables many = refused_tables (λ may. absurd (omega (arith, may.1, length-map tables start_of)))

pub right_number : (tables : List Table) → length tables ≢ 0 → length tables ≤ most_tables → MayBeTables (starts_of tables)
right_number tables some few = (omega (arith, length-map tables start_of), omega (arith, length-map tables start_of))

-- the table that begins so
table_there : (tables : List Table) (index : ℕ) (start : AbstractTable) → slice_get (starts_of tables) index ≡ Some start → (table : Table) × (slice_get tables index ≡ Some table) × (start_of table ≡ start)
table_there [] index start there = absurd (none-some start there)
table_there (table ∷ tables) zero start there = (table, refl, same there)
  where
    same : {a b : AbstractTable} → Some a ≡ Some b → a ≡ b
    same is = cc
table_there (table ∷ tables) (suc index) start there = table_there tables index start there

pub config_refused : (tables : List Table) (index : ℕ) → length tables ≢ 0 → length tables ≤ most_tables → IsFaulty tables index → IsRefusedHall (starts_of tables) (Config (index + 1))
config_refused tables index some few fault = refused_config index (start_of fault.table) (right_number tables some few) (fault_there tables index fault.table fault.there) fault.faulty
    (λ other earlier before there. let found = table_there tables other earlier there in subst (λ (one : AbstractTable). IsWithinLimits one.config) found.2 (fault.first other found.0 before found.1))

pub fault_small : (tables : List Table) (index : ℕ) → IsFaulty tables index → index < length tables
fault_small tables index fault = there_within tables index fault.table fault.there

pub made_new : {W : Type 0} (tables : List Table) (opened : List (KeptState W)) (made : HeldHall W) (queues : List (List ℕ)) → length tables ≢ 0 → length tables ≤ most_tables → HaveLimits tables → opened ≡ new_tables tables → made.state.tables ≡ states_of opened → made.state.lines ≡ replicate lines_in_all (silent (incomplete [])) → made.failed ≡ false → queues ≡ replicate lines_in_all [] → IsNewHall (starts_of tables) made queues
made_new {W} tables opened made queues some few limits is holds lines works queued = record {
  lawful = right_number tables some few;
  configs = starts_within tables limits;
  is = λ i. record { tables = (holds ∙ ap states_of is ∙ starts_new W tables) i; lines = lines i };
  works = works;
  queued = queued;
}
