-- Fewer moves were made, or there was no memory, or the session goes back.
use Rattle.std.proofs.Common.{subst, ◌∙◌}
use Rattle.rbg_questions.specs.Answers.{to_move}
use Rattle.rbg_questions.specs.Answering.{GoesBack, too_far}
use Rattle.rbg_questions.proofs.Answering.{undoes_moves}
use Rattle.rbg_questions.proofs.session.Session.go_back.Goals as goal

pub returns-in_default-clause-refused : goal.returns-in_default-clause-refused
returns-in_default-clause-refused c = too_far (rw c.count_of-many.ensures.count at c.in_default.ensures.none)

pub returns-clause-answers : goal.returns-clause-answers
returns-clause-answers c =
    undoes_moves c.args.self.now c.return_to.new.self c.args.moves (to_move c.player_before-player.result) _ _
    (subst (λ n. GoesBack c.args.self.now n c.return_to.new.self) (c.in-Some.ensures.found.1 ∙ c.count_of-many.ensures.count) c.return_to.ensures)
    (c.player_before-player.ensures c.return_to.new.self c.return_to.ensures) c.in_ok-write_standing.ensures.ok
