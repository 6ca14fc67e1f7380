pub mod Goes
pub mod Shown
