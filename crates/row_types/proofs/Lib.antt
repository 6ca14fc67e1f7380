pub mod AscendsLemmas
pub mod CanonLemmas
pub mod PartLemmas
pub mod TrueRowLemmas
