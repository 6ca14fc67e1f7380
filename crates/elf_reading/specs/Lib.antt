pub use Rattle.row_types.specs.Reading
pub use Rattle.row_types.specs.Sources
pub use Rattle.tree_trait.specs.Reader
pub mod RowViews
