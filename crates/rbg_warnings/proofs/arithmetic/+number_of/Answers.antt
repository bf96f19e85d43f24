-- A chain is a number if it has no operation.
use Rattle.rbg_warnings.proofs.Names.{chain_alone, chain_long}
use Rattle.rbg_warnings.proofs.arithmetic.+number_of.Goals as goal

pub returns-then-is_empty : goal.returns-then-is_empty
returns-then-is_empty t c = chain_alone _ c.in-Chain.first c.in-Chain.rest c.in-Chain.is _ c.as_slice.ensures.value _ c.is_empty.ensures (cc) _ c.deref.ensures _ c.number_of.ensures

pub returns-else-is_empty : goal.returns-else-is_empty
returns-else-is_empty t c = chain_long _ c.in-Chain.first c.in-Chain.rest c.in-Chain.is _ c.as_slice.ensures.value _ c.is_empty.ensures (cc)
