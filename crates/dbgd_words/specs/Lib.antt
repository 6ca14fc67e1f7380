pub mod Limits
pub mod Lines
pub mod Numbers
pub mod Options
pub mod Patterns
pub mod Pinned
pub mod Words
