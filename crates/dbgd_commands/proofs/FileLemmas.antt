-- What is said of a file's sources, of which more is known.
use Rattle.std.proofs.Common.{◌⊎◌, ℕ, List, Option, Result, Ok, Err, inl, inr}
use Rattle.file_formats.specs.Identity.{Identity}
use Rattle.file_formats.specs.declared.fault.Why.{Why}
use Rattle.file_formats.specs.Parts.{IsSomePart, IsSomeSection}
use Rattle.file_formats.specs.Windows.{IsSomeWindow}
use Rattle.file_picture.specs.Picture.{PictureFacts}
use Rattle.file_parts.specs.Found.{AreWide, IsBare}
use Rattle.file_parts.specs.Wholes.{IsThereWhole}
use Rattle.dbgd_commands.specs.Endings.{Streams}
use Rattle.dbgd_commands.specs.Section.{SaysNamed}
use Rattle.dbgd_commands.specs.Sources.{SaysListed}
use Rattle.dbgd_commands.specs.declared.status.Status.{Status}

pub listed_as : (A B : Identity → List (List ℕ) → Type 0) (r : Result Identity Why) (old new : Streams) (end : Status)
    → ((i : Identity) (paths : List (List ℕ)) → A i paths → B i paths) → SaysListed A r old new end → SaysListed B r old new end
listed_as A B (Ok i) old new end each (inl said) = inl (record {
  paths = said.paths;
  are = each i said.paths said.are;
  ends = said.ends;
})
listed_as A B (Ok i) old new end each (inr wants) = inr wants
listed_as A B (Err why) old new end each said = said

-- the same of a section
pub named_as : (A B : Option (List ℕ) → Type 0) (r : Result Identity Why) (old new : Streams) (end : Status)
    → ((section : Option (List ℕ)) → A section → B section) → SaysNamed A r old new end → SaysNamed B r old new end
named_as A B (Ok i) old new end each said = record { section = said.section; is = each said.section said.is; says = said.says }
named_as A B (Err why) old new end each said = said

-- what decides the sources, and a section, decides the identity
pub sources_decide : (p : PictureFacts) → IsThereWhole IsSomePart p ⊎ AreWide p ⊎ IsBare p → IsThereWhole IsSomeWindow p ⊎ AreWide p
sources_decide p (inl whole) = inl (λ b f r w. whole b f r (inl w))
sources_decide p (inr (inl wide)) = inr wide
sources_decide p (inr (inr bare)) = inl bare.windows

pub section_decides : (name : List ℕ) (p : PictureFacts) → IsThereWhole (IsSomeSection name) p ⊎ AreWide p → IsThereWhole IsSomeWindow p ⊎ AreWide p
section_decides name p (inl whole) = inl (λ b f r w. whole b f r (inl w))
section_decides name p (inr wide) = inr wide
