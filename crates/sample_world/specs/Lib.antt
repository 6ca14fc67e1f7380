pub use Rattle.sample_files.specs.Samples as Files
pub use Rattle.row_types.specs.Reading
pub use Rattle.tree_trait.specs.Script
pub mod Samples
pub mod Trees
pub mod World
