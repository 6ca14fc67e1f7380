pub use Rattle.row_types.specs.Name
pub use Rattle.row_types.specs.Row
pub use Rattle.row_types.specs.Stamp
pub mod Chosen
pub mod Names
pub mod Rows
