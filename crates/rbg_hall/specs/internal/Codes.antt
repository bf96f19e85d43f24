-- States of a hall as pairs, sums and lists of numbers, one to one. Proofs tell states apart by them.
use Rattle.std.specs.Prelude.{◌≡◌, ◌⊎◌, ℕ, Bool, List, refl}
use mathlib.Core.Logic.{inl, inr}
use base.Stored.{coded_unit}
use Rattle.std.specs.Coded.{Coded, coded_ℕ, coded_bool, coded_list, coded×, coded⊎, code_by}
use Rattle.rbg_wire.specs.Codes.{coded_rest}
use Rattle.rbg_wire.specs.Streams.{Rest}
use Rattle.rbg_hall.specs.Tables.{TableState}
use Rattle.rbg_hall.specs.internal.TableCodes.{coded_table}
use Rattle.rbg_hall.specs.Kept.{Ledger}
use Rattle.rbg_hall.specs.internal.LogCodes.{coded_ledger}
use Rattle.rbg_hall.specs.Failing.{HeldHall}
use Rattle.rbg_hall.specs.Lines.{HallLine, silent, asks, over}

abbrev line_parts : HallLine → Rest ⊎ ((ℕ × Rest) ⊎ Unit {0})
line_parts (silent rest) = inl rest
line_parts (asks table rest) = inr (inl (table, rest))
line_parts over = inr (inr tt)

abbrev line_from : Rest ⊎ ((ℕ × Rest) ⊎ Unit {0}) → HallLine
line_from (inl rest) = silent rest
line_from (inr (inl parts)) = asks parts.0 parts.1
line_from (inr (inr _)) = over

pub line_from-parts : (line : HallLine) → line_from (line_parts line) ≡ line
line_from-parts (silent rest) = refl
line_from-parts (asks table rest) = refl
line_from-parts over = refl

abbrev coded_line : Coded HallLine
coded_line = code_by (Rest ⊎ ((ℕ × Rest) ⊎ Unit {0}))
    (coded⊎ coded_rest (coded⊎ (coded× coded_ℕ coded_rest) coded_unit)) line_parts line_from line_from-parts

abbrev pub coded_held : {W : Type 0} → Coded W → Coded (HeldHall W)
coded_held {W} code = code_by ((List TableState × List HallLine) × (List (Ledger W) × Bool))
    (coded× (coded× (coded_list coded_table) (coded_list coded_line)) (coded× (coded_list (coded_ledger code)) coded_bool))
    (λ h. ((h.state.tables, h.state.lines), (h.ledgers, h.failed)))
    (λ p. record { state = record { tables = p.0.0; lines = p.0.1 }; ledgers = p.1.0; failed = p.1.1 })
    (λ _. refl)
