-- Only pieces are on a board.
use Rattle.std.proofs.Common.{false, IsTrue}
use Rattle.rbg_warnings.proofs.rule_warnings.is_on_board.Goals as goal

none : (IsTrue false → ⊥) × (⊥ → IsTrue false)
none = (λ h. cc, λ h. absurd h)

pub returns-in-Piece : goal.returns-in-Piece
returns-in-Piece c = rw c.in-Piece.is c.is_first_piece.ensures

pub returns-in-Player : goal.returns-in-Player
returns-in-Player c = rw c.in-Player.is none

pub returns-in-Variable : goal.returns-in-Variable
returns-in-Variable c = rw c.in-Variable.is none

pub returns-in-Direction : goal.returns-in-Direction
returns-in-Direction c = rw c.in-Direction.is none
