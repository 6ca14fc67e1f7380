pub mod AtPath
pub mod Wholes
pub mod Found
