pub mod InHand
pub mod Later
pub mod Prefixes
pub mod Steps
