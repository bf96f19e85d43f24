use Rattle.std.proofs.Common.{rules}
use Rattle.rbg_player.proofs.HearingLemmas.{quietly, never_joins}
use Rattle.rbg_player.proofs.stage.Stage.hear.Goals as goal

pub returns-in-Who : goal.returns-in-Who
returns-in-Who g c = record { ok = rw c.in-Who.is (quietly _ _ _ _ _ (c.hear_name.ensures.ok _)); fault = search rules; out = search rules }

pub returns-in-Limits : goal.returns-in-Limits
returns-in-Limits g c = record { ok = rw c.in-Limits.is (quietly _ _ _ _ _ (c.hear_limits.ensures.ok _ _)); fault = search rules; out = search rules }

pub returns-in-Join : goal.returns-in-Join
returns-in-Join g c = record { ok = search rules; fault = rw c.in-Join.is (never_joins _ _); out = search rules }
