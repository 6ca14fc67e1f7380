pub mod Rule
pub mod Splits
pub mod Tokens
