pub mod View
pub mod Reads
pub mod Septets
pub use Rattle.file_formats.specs.Numbers
pub use Rattle.file_formats.specs.Leb128
pub use Rattle.file_formats.specs.Sections
