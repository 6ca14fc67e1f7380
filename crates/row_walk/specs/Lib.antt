pub mod Found
pub mod Holds
pub mod Looked
pub mod Place
pub mod Walk
