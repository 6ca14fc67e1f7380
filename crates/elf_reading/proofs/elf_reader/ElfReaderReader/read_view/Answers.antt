-- The picture is one of a version of the name.
use Rattle.std.proofs.Common.{subst, sym}
use Rattle.file_picture.specs.Passed.{HasPassed}
use Rattle.tree_trait.specs.Opened.{IsPictureOf, opened_name}
use Rattle.tree_trait.specs.Reader.{SaysRow}
use Rattle.elf_reading.proofs.elf_reader.ElfReaderReader.read_view.Goals as goal

pub read_view-requires-clause-picture : goal.read_view-requires-clause-picture
read_view-requires-clause-picture g c =
    subst (λ name. IsPictureOf g.W.Truth.version name c.picture.result.now) c.requires.name
    (subst (λ p. IsPictureOf g.W.Truth.version (opened_name c.args.opened.now) p) (sym c.picture.ensures.value)
    c.picture.ensures.holds.seen)

pub read_view-requires-clause-passed : goal.read_view-requires-clause-passed
read_view-requires-clause-passed g c = subst (λ p. HasPassed p c.args.from) (sym c.picture.ensures.value) c.requires.passed

pub returns : goal.returns
returns g c = subst (λ p. SaysRow c.args.name p c.read_view.result) c.picture.ensures.value c.read_view.ensures
