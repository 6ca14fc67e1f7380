use Rattle.std.proofs.Common.{◌≡◌, map}
use Rattle.dwarf_forms.specs.Parts.{sections_of}
use Rattle.dwarf_units.specs.UnitList.{unit_facts}
use Rattle.source_paths.specs.Adds.{AddsPaths}
use Rattle.source_paths.specs.Keys.{AreRead}
use Rattle.row_types.specs.Sources.{IsOfOne, IsUnitSource}
use Rattle.source_paths.proofs.paths.all_paths.Given as goal

abbrev pub invariant-loop-unit : goal.invariant-loop-unit
invariant-loop-unit l = record {
  adds : AddsPaths (IsOfOne (IsUnitSource (sections_of l.parts)) (map unit_facts l.yielded)) l.initial.paths l.paths;
  reader : l.reader ≡ sections_of l.parts;
  read : AreRead (sections_of l.parts) l.tables l.paths;
}
