-- The list is followed from the beginning of play.
use Rattle.std.proofs.Common.{◌≡◌, None, ap}
use Rattle.rbg_rules.specs.Meaning.{AbstractGame}
use Rattle.rbg_view.specs.Following.{Standing, first_standing}
use Rattle.rbg_moves.specs.Playing.{Playing, playing_at}
use Rattle.rbg_moves.specs.Starting.{start_place}
use Rattle.rbg_view.proofs.Lists.{list_shown}
use Rattle.rbg_view.proofs.shown_moves.show.Goals as goal

abbrev standing_first : Playing → Standing
standing_first play = record { playing = play; lead = None; end = None }

starts : (game : AbstractGame) (play : Playing) → play ≡ playing_at game (start_place game) → standing_first play ≡ first_standing game
starts game play is = ap standing_first is

pub returns : goal.returns
returns c =
    list_shown c.args.loaded.game c.args.moves.now (standing_first c.in_ok-play.play) c.show_list.new.self.scene c.shown.result
    (starts c.args.loaded.game c.in_ok-play.play (rw c.in_ok-game.ensures at c.in_ok-play.ensures))
    c.in_ok-is_whole.is_whole c.in_ok-is_whole.ensures c.shown.ensures.whole c.shown.ensures.text
