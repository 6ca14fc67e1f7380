pub mod BaseLemmas
pub mod JudgeLemmas
pub mod LinkLemmas
pub mod MemLinkLemmas
pub mod RoseLemmas
pub mod RowLemmas
