pub mod DoorSends
pub mod StoppingLemmas
