-- What a reading knows of a file's build-id, section by section (this project's rule).
use Rattle.file_picture.specs.Agrees.{filled_with_zeros}
use Rattle.std.specs.Prelude.{◌≡◌, ◌≢◌, ℕ, ◌+◌, ◌<◌, ◌≤◌, List, Option, Ok, MatchOption}
use Rattle.file_formats.specs.Table.{section_table}
use Rattle.file_formats.specs.Identity.{HasIdAt, IsBuildId}
use Rattle.file_formats.specs.declared.codes.TheConstants.{ET_CORE}
use Rattle.elf_file.specs.Steps.{AllHere, Needs}
use Rattle.elf_file.specs.Opened.{Opened}
use Rattle.elf_classify.specs.declared.ids.NeedAt.{NeedAt}

-- the section of this index is looked at next: none before it has a build-id, and the windows before it are there
pub record LooksAt (f : Opened) (i : ℕ) : Type 0 where
  pub above : 1 ≤ i
  pub is_table : section_table (filled_with_zeros f.file) ≡ Ok f.table
  pub other : f.table.e_type ≢ ET_CORE
  pub none : (j : ℕ) (id : List ℕ) → j < i → HasIdAt (filled_with_zeros f.file) f.table j id → ⊥
  pub all : AllHere f.file (4 + i)

-- what is found in the section of this index, which is there
pub record FindsAt (f : Opened) (i : ℕ) (found : Option (List ℕ)) : Type 0 where
  pub id : MatchOption found ((other : List ℕ) → HasIdAt (filled_with_zeros f.file) f.table i other → ⊥) (HasIdAt (filled_with_zeros f.file) f.table i)
  pub all : AllHere f.file (5 + i)

-- a window is asked for that isn't there, and the section of this index is looked at next
pub record StopsLooking (f : Opened) (stop : NeedAt) : Type 0 where
  pub needs : Needs f.file stop.need
  pub looks : LooksAt f stop.from

-- what is found in the file, all of whose windows are there
pub record Finds (f : Opened) (found : Option (List ℕ)) : Type 0 where
  pub id : MatchOption found ((i : ℕ) (other : List ℕ) → HasIdAt (filled_with_zeros f.file) f.table i other → ⊥) (IsBuildId (filled_with_zeros f.file) f.table)
  pub all : (n : ℕ) → AllHere f.file n
