-- The logs of the tables of a hall.
use Rattle.rbg_base.proofs.Common.{◌≡◌, ℕ, zero, suc, Bor, ◌↔◌, ◌+◌, ◌-◌, ◌<◌, ◌≤◌, List, [], ◌∷◌, All, length, map, set, get_or, refl, sym, ap, ◌∙◌, subst, arith, Some, None, Option, inl, inr, cases_lt, get_or-map, length-map, none-some, slice_get, IfSome}
use Rattle.rbg_hall.specs.Tables.{TableState, HasSeat}
use Rattle.rbg_hall.proofs.Places.{there_within}
use Rattle.rbg_hall.specs.declared.standing.Standing.{Standing}
use Rattle.rbg_hall.specs.declared.standing.Standing.TheVariants.{LogFailed}
use Rattle.rbg_hall.specs.Kept.{KeptState, Ledger, given, told_log}
use Rattle.rbg_hall.specs.LogLedgers.{HasLog}
use Rattle.rbg_hall.proofs.Common.{begun_at, begun_of, HasLogFailed, IsLogAt, given_at, given_to, log_at, log_of, HasSeatThere, IsPlaced, ledgers_of, states_of}

-- how things stand with each table
abbrev pub standings_of : {W : Type 0} → List (KeptState W) → List Standing
standings_of tables = map (λ one. one.ledger.standing) tables

-- a fact of what each of the first elements is mapped to, of one more, and of all
pub one_more_holds : {X Y : Type 0} (f : X → Y) (P : Y → Type 0) (xs : List X) (count : ℕ) (one : X) → one ≡ get_or xs count one → count < length xs → P (f one) → ((index : ℕ) (d : Y) → index < count → P (get_or (map f xs) index d)) → (index : ℕ) (d : Y) → index < count + 1 → P (get_or (map f xs) index d)
one_more_holds f P xs count one found within holds so_far index d less = elim (cases_lt index count) [
  | inl before ↦ so_far index d before
  | inr last ↦ (let same : index ≡ count = omega arith in
      subst (λ (place : ℕ). P (get_or (map f xs) place d)) (sym same)
      (subst P (sym (get_or-map f xs count one d within ∙ ap f (sym found))) holds))
]

pub all_hold : {X Y : Type 0} (f : X → Y) (P : Y → Type 0) (xs : List X) (count : ℕ) → length xs ≤ count → ((index : ℕ) (d : Y) → index < count → P (get_or (map f xs) index d)) → All P (map f xs)
all_hold f P xs count past so_far = λ index d within. so_far index d (omega (arith, within, past, length-map xs f))

pub one_fails : {X Y : Type 0} (f : X → Y) (P : Y → Type 0) (xs : List X) (count : ℕ) (one : X) → one ≡ get_or xs count one → count < length xs → ¬ P (f one) → ¬ All P (map f xs)
one_fails f P xs count one found within not = λ all.
    not (subst P (get_or-map f xs count one (f one) within ∙ ap f (sym found)) (all count (f one) (omega (arith, within, length-map xs f))))

-- a log that is given to one table
pub kept_at : {W : Type 0} (tables : List (KeptState W)) (index : ℕ) (old new : KeptState W) (log : W) → index < length tables → old ≡ get_or tables index old → new ≡ record old { ledger = given old.table.begun old.ledger log } → (states_of (set tables index new) ≡ states_of tables) × (ledgers_of (set tables index new) ≡ given_at (states_of tables) (ledgers_of tables) index log)
kept_at [] index old new log within found is = absurd (omega arith)
kept_at {W} (table ∷ tables) zero old new log within found is = (
  ap (λ (one : KeptState W). one.table ∷ states_of tables) (is ∙ ap (λ (one : KeptState W). record one { ledger = given one.table.begun one.ledger log }) found),
  ap (λ (one : KeptState W). one.ledger ∷ ledgers_of tables) (is ∙ ap (λ (one : KeptState W). record one { ledger = given one.table.begun one.ledger log }) found),
)
kept_at {W} (table ∷ tables) (suc index) old new log within found is =
    let rest = kept_at tables index old new log (omega arith) found is in
    (ap (λ others. table.table ∷ others) rest.0, ap (λ others. table.ledger ∷ others) rest.1)

-- the log of one table
pub log_there : {W : Type 0} (tables : List (KeptState W)) (index : ℕ) (one : KeptState W) → index < length tables → one ≡ get_or tables index one → log_of (slice_get (ledgers_of tables) index) ≡ told_log one.ledger
log_there [] index one within found = absurd (omega arith)
log_there {W} (table ∷ tables) zero one within found = ap (λ (this : KeptState W). told_log this.ledger) (sym found)
log_there (table ∷ tables) (suc index) one within found = log_there tables index one (omega arith) found

pub state_there : {W : Type 0} (tables : List (KeptState W)) (index : ℕ) (one : KeptState W) → index < length tables → one ≡ get_or tables index one → slice_get (states_of tables) index ≡ Some one.table
state_there [] index one within found = absurd (omega arith)
state_there {W} (table ∷ tables) zero one within found = ap (λ (this : KeptState W). Some this.table) (sym found)
state_there (table ∷ tables) (suc index) one within found = state_there tables index one (omega arith) found

-- nothing stands above the last
pub none_above : {X : Type 0} (xs : List X) (index : ℕ) → length xs ≤ index → slice_get xs index ≡ None
none_above [] index past = refl
none_above (x ∷ xs) zero past = absurd (omega arith)
none_above (x ∷ xs) (suc index) past = none_above xs index (omega arith)

pub given_above : {W : Type 0} (tables : List TableState) (ledgers : List (Ledger W)) (index : ℕ) (log : W) → length tables ≤ index → length ledgers ≡ length tables → given_at tables ledgers index log ≡ ledgers
given_above [] ledgers index log past same = refl
given_above (table ∷ tables) [] index log past same = refl
given_above (table ∷ tables) (ledger ∷ ledgers) zero log past same = absurd (omega arith)
given_above (table ∷ tables) (ledger ∷ ledgers) (suc index) log past same = ap (λ others. ledger ∷ others) (given_above tables ledgers index log (omega arith) (omega arith))

-- a log failed, or none did
pub failed_there : {W : Type 0} (tables : List (KeptState W)) (index : ℕ) (one : KeptState W) → index < length tables → one ≡ get_or tables index one → one.ledger.standing ≡ LogFailed → HasLogFailed (ledgers_of tables)
failed_there {W} tables index one within found failed = record { index = index; ledger = one.ledger; there = there tables index one within found; failed = failed }
  where
    there : (tables : List (KeptState W)) (index : ℕ) (one : KeptState W) → index < length tables → one ≡ get_or tables index one → slice_get (ledgers_of tables) index ≡ Some one.ledger
    there [] index one within found = absurd (omega arith)
    there (table ∷ tables) zero one within found = ap (λ (this : KeptState W). Some this.ledger) (sym found)
    there (table ∷ tables) (suc index) one within found = there tables index one (omega arith) found

standing_there : {W : Type 0} (tables : List (KeptState W)) (index : ℕ) (ledger : Ledger W) → slice_get (ledgers_of tables) index ≡ Some ledger → get_or (standings_of tables) index ledger.standing ≡ ledger.standing
standing_there [] index ledger there = absurd (none-some ledger there)
standing_there {W} (table ∷ tables) zero ledger there = ap (λ (one : Ledger W). one.standing) (same there)
  where
    same : {a b : Ledger W} → Some a ≡ Some b → a ≡ b
    same is = cc
standing_there (table ∷ tables) (suc index) ledger there = standing_there tables index ledger there

ledger_within : {W : Type 0} (tables : List (KeptState W)) (index : ℕ) (ledger : Ledger W) → slice_get (ledgers_of tables) index ≡ Some ledger → index < length tables
ledger_within tables index ledger there = subst (λ (count : ℕ). index < count) (length-map tables (λ one. one.ledger)) (there_within (ledgers_of tables) index ledger there)

pub none_failed : {W : Type 0} (tables : List (KeptState W)) (count : ℕ) → length tables ≤ count → ((index : ℕ) (d : Standing) → index < count → ¬ (get_or (standings_of tables) index d ≡ LogFailed)) → ¬ (HasLogFailed (ledgers_of tables))
none_failed tables count past none failed =
    none failed.index failed.ledger.standing (omega (arith, ledger_within tables failed.index failed.ledger failed.there)) (standing_there tables failed.index failed.ledger failed.there ∙ failed.failed)

-- there are as many states, and ledgers, as tables
past_states : {W : Type 0} (tables : List (KeptState W)) (index : ℕ) → length tables ≤ index → length (states_of tables) ≤ index
past_states tables index past = subst (λ (count : ℕ). count ≤ index) (sym (length-map tables (λ one. one.table))) past

past_ledgers : {W : Type 0} (tables : List (KeptState W)) (index : ℕ) → length tables ≤ index → length (ledgers_of tables) ≤ index
past_ledgers tables index past = subst (λ (count : ℕ). count ≤ index) (sym (length-map tables (λ one. one.ledger))) past

-- the table of a number
next : (index : ℕ) → index + 1 ≡ suc index
next index = omega arith

pub begun_there : {W : Type 0} (tables : List (KeptState W)) (table index : ℕ) (one : KeptState W) → IsPlaced table (length tables) index → one ≡ get_or tables index one → begun_at (states_of tables) table ≡ one.table.begun
begun_there tables table index one placed found =
    ap (begun_at (states_of tables)) (placed.number ∙ next index) ∙ ap begun_of (state_there tables index one placed.within found)

pub begun_nowhere : {W : Type 0} (tables : List (KeptState W)) (table : ℕ) → ((index : ℕ) → table ≡ index + 1 → length tables ≤ index) → begun_at (states_of tables) table ≡ None
begun_nowhere tables zero nowhere = refl
begun_nowhere tables (suc index) nowhere = ap begun_of (none_above (states_of tables) index (past_states tables index (nowhere index (sym (next index)))))

pub told_there : {W : Type 0} (tables : List (KeptState W)) (table index : ℕ) (one : KeptState W) → IsPlaced table (length tables) index → one ≡ get_or tables index one → log_at (ledgers_of tables) table ≡ told_log one.ledger
told_there tables table index one placed found =
    ap (log_at (ledgers_of tables)) (placed.number ∙ next index) ∙ log_there tables index one placed.within found

pub told_nowhere : {W : Type 0} (tables : List (KeptState W)) (table : ℕ) → ((index : ℕ) → table ≡ index + 1 → length tables ≤ index) → log_at (ledgers_of tables) table ≡ None
told_nowhere tables zero nowhere = refl
told_nowhere tables (suc index) nowhere = ap log_of (none_above (ledgers_of tables) index (past_ledgers tables index (nowhere index (sym (next index)))))

pub is_log_there : {W : Type 0} (told : W → List ℕ → Type 0) (tables : List (KeptState W)) (table index : ℕ) (one : KeptState W) (found : Option (Bor W)) → IsPlaced table (length tables) index → one ≡ get_or tables index one → IfSome found (λ log. HasLog told one.table log.now) → IfSome found (λ log. IsLogAt told log.now (states_of tables) table)
is_log_there told tables table index one None placed is has = tt
is_log_there told tables table index one (Some log) placed is has = record { index = index; number = placed.number; state = one.table; there = state_there tables index one placed.within is; has = has }

pub kept_there : {W : Type 0} (tables : List (KeptState W)) (table index : ℕ) (old new : KeptState W) (log : W) → IsPlaced table (length tables) index → old ≡ get_or tables index old → new ≡ record old { ledger = given old.table.begun old.ledger log } → (states_of (set tables index new) ≡ states_of tables) × (ledgers_of (set tables index new) ≡ given_to (states_of tables) (ledgers_of tables) table log)
kept_there tables table index old new log placed found is =
    let kept = kept_at tables index old new log placed.within found is in
    (kept.0, kept.1 ∙ ap (λ (number : ℕ). given_to (states_of tables) (ledgers_of tables) number log) (sym (placed.number ∙ next index)))

pub kept_nowhere : {W : Type 0} (tables : List (KeptState W)) (table : ℕ) (log : W) → ((index : ℕ) → table ≡ index + 1 → length tables ≤ index) → ledgers_of tables ≡ given_to (states_of tables) (ledgers_of tables) table log
kept_nowhere tables zero log nowhere = refl
kept_nowhere tables (suc index) log nowhere =
    sym (given_above (states_of tables) (ledgers_of tables) index log (past_states tables index (nowhere index (sym (next index))))
    (length-map tables (λ one. one.ledger) ∙ sym (length-map tables (λ one. one.table))))

-- whether a line has a seat there
pub seat_there : {W R : Type 0} (tables : List (KeptState W)) (index line : ℕ) (one : KeptState W) → index < length tables → one ≡ get_or tables index one → (R ↔ HasSeat one.table line) → R ↔ HasSeatThere (slice_get (states_of tables) (index + 1 - 1)) line
seat_there {W} {R} tables index line one within found seat =
    subst (λ (there : Option TableState). R ↔ HasSeatThere there line) (sym (ap (slice_get (states_of tables)) (back index) ∙ state_there tables index one within found)) seat
  where
    back : (n : ℕ) → n + 1 - 1 ≡ n
    back n = omega arith
