pub use Rattle.file_formats.specs.Identity
pub use Rattle.file_formats.specs.Table
pub use Rattle.file_formats.specs.DwarfSections
pub mod Ids
pub mod Views
pub mod Placed
pub mod DebugViews
