-- The pieces of a place.
use Rattle.rbg_base.proofs.Common.{◌≡◌, ◌<◌, length, sym, ◌∙◌, All, All-from_get_or}
use Rattle.rbg_rules.specs.Meaning.{AbstractGame, AbstractPlace, IsPlaceOf}

-- all pieces of a place are those of the game
pub pieces_within : (game : AbstractGame) (place : AbstractPlace) → IsPlaceOf game place → All (λ piece. piece < length game.pieces) place.state.pieces
pieces_within game place in_game =
    All-from_get_or (λ piece. piece < length game.pieces) place.state.pieces 0 in_game.state.pieces

-- two places of a game have as many vertices and variables
pub same_pieces : (game : AbstractGame) (one other : AbstractPlace) → IsPlaceOf game one → IsPlaceOf game other → length one.state.pieces ≡ length other.state.pieces
same_pieces game one other first second = first.state.vertices ∙ sym second.state.vertices

pub same_variables : (game : AbstractGame) (one other : AbstractPlace) → IsPlaceOf game one → IsPlaceOf game other → length one.state.values ≡ length other.state.values
same_variables game one other first second = first.state.variables ∙ sym second.state.variables
