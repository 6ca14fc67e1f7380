pub mod CutLemmas
pub mod KeeperLemmas
pub mod TreeLemmas
