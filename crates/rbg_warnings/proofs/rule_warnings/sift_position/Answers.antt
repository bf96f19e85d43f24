-- The game has the warning, or not.
use Rattle.rbg_base.proofs.Common.{refl, false≢true}
use Rattle.rbg_warnings.proofs.Sifting.{sifts_in, sifts_out}
use Rattle.rbg_warnings.proofs.rule_warnings.sift_position.Goals as goal

pub returns-in_ok-push : goal.returns-in_ok-push
returns-in_ok-push c = sifts_in _ _ _ _ (c.if-has_too_great.ensures.0 refl) c.in_ok-push.ensures.items

pub returns-else-has_too_great : goal.returns-else-has_too_great
returns-else-has_too_great c = sifts_out _ _ _ (λ found. false≢true (c.if-has_too_great.ensures.1 found))
