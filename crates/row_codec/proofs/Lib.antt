pub mod Fronts
pub mod OneSpelling
pub mod Sources
