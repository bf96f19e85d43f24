-- The seat of a line, looked up once.
use Rattle.std.proofs.Common.{◌≡◌, ℕ, ◌+◌, ◌<◌, ◌^◌, Option, Some, None, subst, IfSome, IfNone}
use Rattle.rbg_hall.proofs.TableCommon.{HasNoSeat, IsSeatOf, SitsAt, TableState}

pub seat_is : (table : TableState) (line : ℕ) (seat : Option ℕ) → IfSome seat (SitsAt table line) → IfSome seat (λ index. index + 1 < 2 ^ 64) → IfNone seat (HasNoSeat table line) → IsSeatOf table (Some line) seat
seat_is table line None sits small none = none
seat_is table line (Some index) sits small none = (sits, small)

module _ (table : TableState) (line : ℕ) {from seat : Option ℕ} where
  pub seat_there : (index : ℕ) → IsSeatOf table from seat → from ≡ Some line → seat ≡ Some index → SitsAt table line index × (index + 1 < 2 ^ 64)
  seat_there index is own there = subst (IsSeatOf table (Some line)) there (subst (λ one. IsSeatOf table one seat) own is)

  pub seat_nowhere : IsSeatOf table from seat → from ≡ Some line → seat ≡ None → HasNoSeat table line
  seat_nowhere is own nowhere = subst (IsSeatOf table (Some line)) nowhere (subst (λ one. IsSeatOf table one seat) own is)
