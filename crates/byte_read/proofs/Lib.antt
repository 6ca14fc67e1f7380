pub mod NumberLemmas
pub mod PlaceLemmas
pub mod LebLemmas
pub mod TextLemmas
