-- Ledgers as pairs and sums, one to one. Proofs tell them apart by them.
use Rattle.std.specs.Prelude.{◌≡◌, Bool, true, false, Option, refl}
use Rattle.std.specs.Coded.{Coded, coded_bool, coded_option, coded×, code_by}
use Rattle.rbg_hall.specs.Tables.{TableState}
use Rattle.rbg_hall.specs.internal.TableCodes.{coded_table}
use Rattle.rbg_hall.specs.declared.standing.Standing.{Standing}
use Rattle.rbg_hall.specs.declared.standing.Standing.TheVariants.{Works, LogFailed, OutOfMemory}
use Rattle.rbg_hall.specs.Kept.{KeptState, Ledger}

abbrev standing_bits : Standing → Bool × Bool
standing_bits Works = (true, true)
standing_bits LogFailed = (true, false)
standing_bits OutOfMemory = (false, false)

abbrev standing_from : Bool × Bool → Standing
standing_from (true, true) = Works
standing_from (true, false) = LogFailed
standing_from (false, bit) = OutOfMemory

pub standing_from-bits : (standing : Standing) → standing_from (standing_bits standing) ≡ standing
standing_from-bits Works = refl
standing_from-bits LogFailed = refl
standing_from-bits OutOfMemory = refl

abbrev coded_standing : Coded Standing
coded_standing = code_by (Bool × Bool) (coded× coded_bool coded_bool) standing_bits standing_from standing_from-bits

abbrev pub coded_ledger : {W : Type 0} → Coded W → Coded (Ledger W)
coded_ledger {W} code =
    code_by (Option W × Standing) (coded× (coded_option code) coded_standing) (λ l. (l.log, l.standing))
    (λ p. record { log = p.0; standing = p.1 }) (λ _. refl)

abbrev pub coded_kept : {W : Type 0} → Coded W → Coded (KeptState W)
coded_kept {W} code =
    code_by (TableState × Ledger W) (coded× coded_table (coded_ledger code)) (λ k. (k.table, k.ledger))
    (λ p. record { table = p.0; ledger = p.1 }) (λ _. refl)
