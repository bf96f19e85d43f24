-- The boards of games, if one game is the other with other pieces.
use Rattle.std.proofs.Common.{◌≡◌, ℕ, List, sym, ap, subst, ◌∙◌}
use Rattle.rbg_board.specs.Graph.{Graph}
use Rattle.rbg_rules.specs.Meaning.{AbstractGame}
use Rattle.rbg_position.specs.Same.{IsNarrow, game_with}
use Rattle.rbg_position.specs.internal.Parts.{IsBoardWith}
use Rattle.rbg_position.proofs.same_game.is_game_with.Goals as goal

boards : (new old : AbstractGame) (pieces : List ℕ) (a b : Graph) → a ≡ new.board → b ≡ old.board → new ≡ game_with old pieces → IsBoardWith a b pieces
boards new old pieces a b a_is b_is is = record {
  first = ap (λ (g : Graph). g.first) a_is ∙ ap (λ (g : AbstractGame). g.board.first) is;
  ways = ap (λ (g : Graph). g.ways) a_is ∙ (ap (λ (g : AbstractGame). g.board.ways) is ∙ ap (λ (g : Graph). g.ways) (sym b_is));
}

pub returns-then-not-is_board_with-clause-whole : goal.returns-then-not-is_board_with-clause-whole
returns-then-not-is_board_with-clause-whole c = λ narrow is.
    c.if-not-is_board_with.ensures.whole (subst IsNarrow (sym c.board-2.ensures.board) narrow)
    (boards _ _ _ _ _ c.board.ensures.board c.board-2.ensures.board is)
