-- The debug sections are looked at from the start.
use Rattle.std.proofs.Common.{List, sym, subst}
use Rattle.std.specs.Prelude.{option_map}
use Rattle.dwarf_forms.specs.Parts.{sections_of}
use Rattle.file_picture.specs.Agrees.{IsOfEach}
use Rattle.row_types.specs.Reading.{ReadsWithin, RestsOn}
use Rattle.row_types.specs.declared.reading.Reading.TheVariants.{Elf}
use Rattle.elf_reading.specs.RowViews.{CoversMore}
use Rattle.elf_reading.proofs.ViewLemmas.{none_seen, part_next, sources_seen}
use Rattle.elf_reading.proofs.reading.elf_seen.Goals as goal

pub parts_view-requires : goal.parts_view-requires
parts_view-requires c = record { identity = c.args.ident; known = c.requires.known }

pub covers_more-requires-clause-known : goal.covers_more-requires-clause-known
covers_more-requires-clause-known c = record { identity = c.args.ident; known = c.requires.known }

pub returns-then-covers_more : goal.returns-then-covers_more
returns-then-covers_more c =
    subst (λ (sources : List (List _)). IsOfEach (RestsOn c.args.limit) (λ b. ReadsWithin c.args.limit b (Elf c.args.ident sources)) c.args.picture.now)
    (sym c.new.ensures)
    (none_seen c.args.limit c.args.picture.now c.size-size.ensures.holds c.requires.read c.args.ident c.requires.known
    (subst (CoversMore c.args.limit c.args.picture.now) c.if-covers_more.true c.covers_more.ensures))

pub returns-else-covers_more : goal.returns-else-covers_more
returns-else-covers_more c = (
  c.in-Need.ensures,
  part_next c.args.limit c.args.picture.now c.size-size.ensures.holds c.requires.read c.args.ident c.requires.known c.in-Need.at c.in-Need.len
      c.in-Need.ensures
      (subst (CoversMore c.args.limit c.args.picture.now) c.if-covers_more.false c.covers_more.ensures),
  c.requires.passed,
)

pub returns-in-Ok : goal.returns-in-Ok
returns-in-Ok c =
    sources_seen c.args.limit c.args.picture.now c.size-size.ensures.holds c.requires.read c.args.ident c.requires.known
    (option_map sections_of c.in-Parts.parts) c.in-Ok.sources c.in-Parts.ensures c.in-Ok.ensures.sources
