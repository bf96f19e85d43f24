-- The pairs are a move's, which is made or refused, or they are too few or too many.
use Rattle.std.proofs.Common.{ℕ, List}
use Rattle.rbg_questions.specs.Places.{IsUnfollowed}
use Rattle.rbg_c.specs.Stepping.{no_length}
use Rattle.rbg_c.proofs.Unmade.{no_move_of}
use Rattle.rbg_c.proofs.playing.hear.Goals as goal

pub returns-in-Some-clause-refused : goal.returns-in-Some-clause-refused
returns-in-Some-clause-refused c =
    no_move_of _ (λ (ps : List (ℕ × ℕ)). IsUnfollowed c.args.state.now.game c.args.state.now.place ps) _ _ c.in-Some.ensures.found c.hear.ensures.refused

pub returns-in-None-clause-refused : goal.returns-in-None-clause-refused
returns-in-None-clause-refused c = no_length c.in-None.ensures.none
