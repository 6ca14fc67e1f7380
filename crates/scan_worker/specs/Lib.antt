pub use Rattle.index_state.specs.State
pub use Rattle.tree_trait.specs.Reader
pub mod Ends
pub mod Parts
pub mod Read
pub mod Turns
pub mod Works
