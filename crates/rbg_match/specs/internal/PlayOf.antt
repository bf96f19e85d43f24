-- The state of play that the code's `Play` means.
use Rattle.rbg_match.specs.declared.play.Play.{Play}
use Rattle.rbg_match.specs.Play.{AbstractPlay}

abbrev pub play_of : Play → AbstractPlay
play_of play = record {
  place = play.place;
  turn_began = play.turn_began;
  refusals = play.refusals.items;
  made = play.made.items;
  outcome = play.outcome;
}
