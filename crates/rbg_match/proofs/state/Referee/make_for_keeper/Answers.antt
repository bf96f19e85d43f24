use Rattle.rbg_match.proofs.Replying.{replies_err}
use Rattle.rbg_match.proofs.state.Referee.make_for_keeper.Goals as goal

pub returns-in_err-to : goal.returns-in_err-to
returns-in_err-to c = rw (← c.self.view_is) (replies_err _ c.from_residual.result c.from_residual.ensures.0 _)

pub returns-in_err-make_move : goal.returns-in_err-make_move
returns-in_err-make_move c = rw (← c.self.view_is) (replies_err _ c.from_residual-in_err-make_move.result c.from_residual-in_err-make_move.ensures.0 _)
