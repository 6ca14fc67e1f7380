pub mod Slots
pub mod Zips
