-- One number after the other.
use Rattle.std.proofs.Common.{length, arith}
use Rattle.rbg_warnings.specs.declared.warning.Warning.TheVariants.{TooGreat}
use Rattle.rbg_rules.specs.Meaning.{positions_of}
use Rattle.rbg_warnings.specs.Warnings.{positions_warned}
use Rattle.rbg_warnings.proofs.Sifting.{sifts_all, sifts_none, sifts_more}
use Rattle.rbg_warnings.proofs.rule_warnings.sift_positions.Goals as goal

pub loop-index-init : goal.loop-index-init
loop-index-init c = sifts_none _ _

pub loop-index-preserved : goal.loop-index-preserved
loop-index-preserved c = sifts_more _ (TooGreat) (1) c.loop-index.index _ _ _ _ (omega arith) c.loop-index.invariant c.in_ok-sift_position.ensures

pub returns : goal.returns
unfolding positions_warned
returns c = sifts_all _ (TooGreat) (1) _ (length (positions_of c.args.game.now.rules)) _ _ (omega arith) c.loop-index.invariant
