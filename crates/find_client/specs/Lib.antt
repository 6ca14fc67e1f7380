pub mod Cache
pub mod Carried
pub mod Find
pub mod Looks
pub mod MemCache
