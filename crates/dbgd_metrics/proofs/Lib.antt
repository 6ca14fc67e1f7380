pub mod Views
pub mod Keeps
pub mod Steps
pub mod Loads
pub mod Rows
pub mod Seats
pub mod Apart
