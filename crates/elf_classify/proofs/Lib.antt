pub mod IdLemmas
pub mod PlaceLemmas
pub mod SeenLemmas
pub mod PlacedLemmas
pub mod DebugLemmas
pub mod DebugPlaceLemmas
