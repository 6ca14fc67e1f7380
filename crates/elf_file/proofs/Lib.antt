pub mod SectionLemmas
pub mod TextLemmas
pub mod StartLemmas
pub mod TestLemmas
pub mod NameSteps
pub mod WholeLemmas
pub mod ViewLaws
