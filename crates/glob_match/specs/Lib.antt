pub mod Front
pub mod Glob
pub mod Last
pub mod Laws
