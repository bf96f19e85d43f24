-- The move that is pushed is what the text means.
use Rattle.std.proofs.Common.{[], ◌∷◌, sym}
use Rattle.std.proofs.lemmas.List.{append-nil}
use Rattle.rbg_view.specs.Readings.Means.{one, none}
use Rattle.rbg_view.proofs.move_readings.push_meaning.Goals as goal

pub returns-in_ok-push : goal.returns-in_ok-push
returns-in_ok-push c = record { meant = c.in-Some.reading ∷ []; means = one _ c.in-Some.ensures.found; is = c.in_ok-push.ensures.items }

pub returns-in_default : goal.returns-in_default
returns-in_default c = record { meant = []; means = none c.in_default.ensures.none; is = sym (append-nil _) }
