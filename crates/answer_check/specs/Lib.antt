pub use Rattle.file_formats.specs.Identity
pub use Rattle.file_formats.specs.Table
pub mod Certified
pub mod Checked
pub mod CheckedSection
pub mod Passing
pub mod Refusal
pub mod Section
