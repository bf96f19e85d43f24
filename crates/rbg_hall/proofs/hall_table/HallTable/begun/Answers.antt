use Rattle.std.proofs.Common.{◌≡◌, false, sym, subst}
use Rattle.rbg_match.specs.Matches.{MatchState, HasHistory}
use Rattle.rbg_hall.proofs.hall_table.HallTable.begun.Goals as goal

pub returns-in-Begun-clause-history : goal.returns-in-Begun-clause-history
returns-in-Begun-clause-history c = subst (λ (one : MatchState). one.failed ≡ false → HasHistory one) (sym c.playing.ensures.is) c.playing.ensures.history
