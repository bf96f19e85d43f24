-- The game has the warning, or not.
use Rattle.rbg_base.proofs.Common.{refl, false≢true}
use Rattle.rbg_warnings.proofs.Sifting.{sifts_in, sifts_out}
use Rattle.rbg_warnings.proofs.rule_warnings.sift_thing.Goals as goal

pub returns-in_ok-push : goal.returns-in_ok-push
returns-in_ok-push c = sifts_in _ _ _ _ (c.if-is_unused.ensures.0 refl) c.in_ok-push.ensures.items

pub returns-else-is_unused : goal.returns-else-is_unused
returns-else-is_unused c = sifts_out _ _ _ (λ unused. false≢true (c.if-is_unused.ensures.1 unused))
