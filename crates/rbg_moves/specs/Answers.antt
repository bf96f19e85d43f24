-- What a call that asks about the moves of a place says of its answer, or why there is none. Each record speaks of the
-- result of the call, in whatever form this tells a move or a list of moves.
use Rattle.std.specs.Prelude.{◌≡◌, ℕ, ◌⊎◌, List, length, Bool, true, false, Option, Result, Err, IfOk, IfSome, IfNone, OnOk}
use Rattle.rbg_base.specs.Move.{IsMoveLength}
use Rattle.rbg_rules.specs.Meaning.{AbstractGame, IsTooHard, AbstractPlace, Finished, IsLegal, Legal, IsPlaceOf, Question, find_move, list_moves, try_move}
use Rattle.rbg_search.specs.declared.over.Over.{Over}
use Rattle.rbg_search.specs.declared.over.Over.TheVariants.{Deep, Wide}
use Rattle.rbg_moves.specs.Limits.{IsDeepAt, IsWideAt, FitsLimits}

-- Where the question at a place was given up as too deep or too wide, it is.
--   heavy: it is above the limits
--   deep: an opening of it has too many modifiers in a row
--   wide: it has more openings than may be taken up
pub record GivesUp {X : Type 0}
    (game : AbstractGame) (question : Question) (place : AbstractPlace) (result : Result X Over)
    : Type 0
  where
    pub heavy : (result ≡ Err Deep) ⊎ (result ≡ Err Wide) → IsTooHard game question place
    pub deep : result ≡ Err Deep → IsDeepAt game question place
    pub wide : result ≡ Err Wide → IsWideAt game question place

-- Some legal move of the place was found, if there is one. `pairs_of` gives the pairs of what was found.
--   found, sized: what was found has the pairs of a legal move, as many as a move may have
--   finished: where nothing was found, play is finished
--   given_up, fits: it was given up only above the limits, and answered only within them
pub record FindsMove {X : Type 0}
    (game : AbstractGame) (place : AbstractPlace) (result : Result (Option X) Over) (pairs_of : X → List (ℕ × ℕ))
    : Type 0
  where
    pub found : IfOk result (λ found. IfSome found (λ x. IsLegal game place (pairs_of x)))
    pub sized : IfOk result (λ found. IfSome found (λ x. IsMoveLength (length (pairs_of x))))
    pub finished : IfOk result (λ found. IfNone found (Finished game place))
    pub given_up : GivesUp game find_move place result
    pub fits : OnOk result ((cut : Bool) → FitsLimits game cut find_move place)

-- Whether the place has a legal move was told.
--   some: where there is said to be one, there is
--   finished, given_up, fits: as in FindsMove
pub record TellsMove (game : AbstractGame) (place : AbstractPlace) (result : Result Bool Over) : Type 0 where
  pub some : IfOk result (λ some. some ≡ true → (pairs : List (ℕ × ℕ)) × IsLegal game place pairs)
  pub finished : IfOk result (λ some. some ≡ false → Finished game place)
  pub given_up : GivesUp game find_move place result
  pub fits : OnOk result ((cut : Bool) → FitsLimits game cut find_move place)

-- The pairs were tried as a move of the place.
--   legal, only, in_game: they lead to this place of the game, and to no other
--   illegal: where there is no such place, they lead nowhere
--   given_up, fits: it was given up only above the limits, and answered only within them
pub record TriesMove
    (game : AbstractGame) (place : AbstractPlace) (pairs : List (ℕ × ℕ)) (result : Result (Option AbstractPlace) Over)
    : Type 0
  where
    pub legal : IfOk result (λ after. IfSome after (Legal game place pairs))
    pub only :
        IfOk result (λ after. IfSome after (λ to. (other : AbstractPlace) → Legal game place pairs other → other ≡ to))
    pub in_game : IfOk result (λ after. IfSome after (IsPlaceOf game))
    pub illegal : IfOk result (λ after. IfNone after ((to : AbstractPlace) → ¬ Legal game place pairs to))
    pub given_up : GivesUp game (try_move pairs) place result
    pub fits : OnOk result ((cut : Bool) → FitsLimits game cut (try_move pairs) place)

-- The legal moves of the place were listed.
--   lists: the answer is as Lists says
--   given_up, fits: it was given up only above the limits, and answered only within them; cut_of tells whether the list
--   was cut
pub record ListsMoves {X : Type 0}
    (game : AbstractGame) (place : AbstractPlace) (result : Result X Over) (Lists : X → Type 0) (cut_of : X → Bool)
    : Type 0
  where
    pub lists : IfOk result Lists
    pub given_up : GivesUp game list_moves place result
    pub fits : IfOk result (λ listed. FitsLimits game (cut_of listed) list_moves place)
