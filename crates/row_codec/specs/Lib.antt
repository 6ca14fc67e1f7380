pub use Rattle.row_types.specs.Row
pub mod Spelled
pub mod RowBytes
pub mod Pinned
pub mod Read
pub mod Reads
