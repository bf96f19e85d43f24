use Rattle.std.proofs.Common.{ℕ, List, subst}
use Rattle.std.proofs.lemmas.List.{take_all}
use Rattle.rbg_flat.proofs.Common.{IsToTryIn, Meets, IsAmongBits}
use Rattle.rbg_flat.proofs.Stills.{meets_bits_more}
use Rattle.rbg_flat.proofs.leading.meet_bits.Goals as goal

pub loop-position-preserved : goal.loop-position-preserved
loop-position-preserved c =
    meets_bits_more c.args.positions.now c.loop-position.position-index 0 c.loop-position-test.true c.args.column c.args.bits
    c.args.sets.now c.loop-position.sets c.meet_at.new.sets (IsToTryIn c.args.setting.now) c.loop-position.invariant c.meet_at.ensures

pub returns : goal.returns
returns c =
    subst (λ (ts : List ℕ). Meets c.args.sets.now c.loop-position.sets (IsAmongBits ts c.args.column c.args.bits) (IsToTryIn c.args.setting.now))
    (take_all c.loop-position.position-index c.args.positions.now c.loop-position-test.false) c.loop-position.invariant
