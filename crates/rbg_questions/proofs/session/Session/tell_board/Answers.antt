-- What is told is what the session holds.
use Rattle.std.proofs.Common.{rules}
use Rattle.rbg_questions.proofs.Answering.{tells_pieces}
use Rattle.rbg_questions.proofs.session.Session.tell_board.Goals as goal

pub returns : goal.returns
returns c = record {
  answers = rw (← c.self.view_is) (tells_pieces _ _ _ _ c.pieces_at.ensures c.in_ok-write_board.ensures.ok);
  refused = search rules;
  out = search rules;
}
