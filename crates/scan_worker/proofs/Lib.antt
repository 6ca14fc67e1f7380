pub mod HandLemmas
pub mod PartLemmas
pub mod ReadLemmas
pub mod WorkLemmas
