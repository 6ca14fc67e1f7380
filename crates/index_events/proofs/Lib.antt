pub mod PutsStand
pub mod Runs
