-- What is read of a note (ELF gABI, chapter 5, "Note Section"): its fields, and the places of its parts.
use Rattle.std.specs.Prelude.{◌≡◌, ℕ, ◌+◌, ◌≤◌, ◌<◌}
use Rattle.file_formats.specs.declared.notes.TheConstants.{NHDR_SIZE}
use Rattle.elf_notes.specs.declared.notes.Note.{Note}
use Rattle.file_formats.specs.Notes.{Notes, namesz, descsz, note_type, desc_place, next_place, HoldsNote}

-- the note stands at place p, with its fields and the places of its parts
pub record IsNote (s : Notes) (p : ℕ) (note : Note) : Type 0 where
  pub there : HoldsNote s p
  pub name_size : note.name_size ≡ namesz s p
  pub kind : note.kind ≡ note_type s p
  pub descriptor : note.descriptor ≡ desc_place s p
  pub descriptor_size : note.descriptor_size ≡ descsz s p
  pub next : note.next ≡ next_place s p
  pub name_end : p + NHDR_SIZE + note.name_size ≤ note.descriptor
  pub later : p < note.next
