pub mod KnownLemmas
pub mod PathLemmas
pub mod WholeLemmas
pub mod FoundLemmas
pub mod FoundEnds
