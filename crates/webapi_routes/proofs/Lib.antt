pub mod Escapes
pub mod PartLemmas
pub mod PrintLemmas
pub mod TargetLemmas
pub mod WrittenLemmas
