-- The pairs are applied, or what was applied is taken back.
use Rattle.std.proofs.Common.{ap, arith}
use Rattle.rbg_state.specs.History.{History, IsAfter}
use Rattle.rbg_state.proofs.Histories.{no_shorter}
use Rattle.rbg_moves.proofs.Copies.{from_copy}
use Rattle.rbg_moves.proofs.Results.{err_of}
use Rattle.rbg_moves.proofs.making.make_pairs.Goals as goal

pub undo_to-requires : goal.undo_to-requires
undo_to-requires c =
    let changed : IsAfter c.place.inside.state c.make_each.new.state = err_of c.make_each.result c.in-Err.memory _ c.in-Err.is c.make_each.ensures.after in
    let shorter = no_shorter c.place.inside.state c.make_each.new.state changed in
    omega (arith, c.mark-mark.ensures, shorter)

pub returns-in-Err-clause-refused : goal.returns-in-Err-clause-refused
returns-in-Err-clause-refused c =
    let changed : IsAfter c.place.inside.state c.make_each.new.state = err_of c.make_each.result c.in-Err.memory _ c.in-Err.is c.make_each.ensures.after in
    from_copy c.args.place.now c.undo_to.new.self.state c.place.inside.state.state c.place.inside.after (ap (λ (x : History). x.state) (c.undo_to.ensures.given_back c.place.inside.state c.mark-mark.ensures changed)) c.place.view_is
