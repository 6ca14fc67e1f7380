pub mod Parts
pub mod Fields
pub mod Layout
pub mod Notes
pub mod Samples
