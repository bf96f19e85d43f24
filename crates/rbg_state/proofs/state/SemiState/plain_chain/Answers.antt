use Rattle.std.proofs.Common.{length, arith}
use Rattle.std.proofs.lemmas.Int.{to_z-of_z}
use Rattle.rbg_state.proofs.Chains.{value_of-Chain, some_as}
use Rattle.rbg_state.proofs.Reading.{reads_of-Chain}
use Rattle.rbg_state.proofs.state.SemiState.plain_chain.Goals as goal

pub plain_value-requires : goal.plain_value-requires
plain_value-requires c =
    let reads = reads_of-Chain (length c.args.self.now.state.values) c.args.expression.now c.in-Chain.first c.in-Chain.rest c.requires c.in-Chain.is in
    rw c.deref.ensures reads.0

pub plain_step-requires : goal.plain_step-requires
plain_step-requires c =
    let reads = reads_of-Chain (length c.args.self.now.state.values) c.args.expression.now c.in-Chain.first c.in-Chain.rest c.requires c.in-Chain.is in
    rw c.deref-in-Chain.ensures.value reads.1

pub returns-in_ok-plain_value-in-Chain : goal.returns-in_ok-plain_value-in-Chain
returns-in_ok-plain_value-in-Chain c =
    let value = value_of-Chain c.args.self.now.state c.args.expression.now c.in-Chain.first c.in-Chain.rest c.in-Chain.is in
    let first = c.in_ok-plain_value-in-Chain.ensures in
    let here = c.deref.ensures in
    let items = c.deref-in-Chain.ensures.value in
    some_as c.plain_step.result _ _ (grind (arith, to_z-of_z)) c.plain_step.ensures
