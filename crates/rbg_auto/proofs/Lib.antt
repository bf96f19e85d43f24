-- Lemmas on the definitions of specs/, by topic.
pub mod ChainLemmas
pub mod OrderLemmas
pub mod FirstLemmas
pub mod CutLemmas
pub mod StepLemmas
pub mod WholeLemmas
pub mod LayLemmas
pub mod TreeLemmas
pub mod LayTreeLemmas
pub mod BuildingLemmas
pub mod CompactLemmas
pub mod PreparedLemmas
pub mod UnionLemmas
pub mod PlainNodeLemmas
