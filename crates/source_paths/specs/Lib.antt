pub use Rattle.file_formats.specs.DwarfUnits
pub use Rattle.file_formats.specs.DwarfLines
pub use Rattle.row_types.specs.Canon
pub use Rattle.row_types.specs.Sources
pub mod Adds
pub mod Keys
pub mod Lately
pub mod Room
