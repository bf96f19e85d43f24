-- The match that is given is the one that was served.
use Rattle.std.proofs.Common.{subst, sym}
use Rattle.rbg_hosting.specs.Played.{IsPlayedMatch}
use Rattle.rbg_hosting.proofs.bounded.play_on.Goals as goal

pub returns : goal.returns
returns g c = λ text is.
    subst (IsPlayedMatch text) (sym c.into_played.ensures) (c.in_ok-serve_rounds.ensures text (subst (IsPlayedMatch text) (sym c.begin_bound-rounds.ensures) is))
