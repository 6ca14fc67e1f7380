pub use Rattle.file_formats.specs.Notes
pub mod NoteView
