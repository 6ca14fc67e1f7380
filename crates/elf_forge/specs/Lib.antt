pub mod Forge
pub mod Place
pub mod Tree
