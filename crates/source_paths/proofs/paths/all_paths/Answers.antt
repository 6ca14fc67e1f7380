use Rattle.std.proofs.Common.{◌↔◌, ℕ, List, ap, sym, subst, ◌∙◌}
use Rattle.std.specs.BTreeSet.{BTreeSet}
use Rattle.std.proofs.lemmas.Iterator.Consumers.{YieldsList-from_first, YieldsList-end}
use Rattle.std.proofs.lemmas.List.{map_push}
use Rattle.dwarf_forms.specs.Parts.{sections_of}
use Rattle.dwarf_units.specs.UnitList.{unit_facts, units_left}
use Rattle.source_paths.specs.Adds.{AddsPaths, Has}
use Rattle.row_types.specs.Sources.{IsOfOne, IsSource, IsUnitSource}
use Rattle.source_paths.proofs.AddLemmas.{adds-none_of, adds-one_more}
use Rattle.source_paths.proofs.KeyLemmas.{units-exact}
use Rattle.source_paths.proofs.paths.all_paths.Goals as goal

pub loop-unit-preserved : goal.loop-unit-preserved
loop-unit-preserved c = record {
  adds = subst (λ done. AddsPaths (IsOfOne (IsUnitSource (sections_of c.args.parts.now)) done) c.in_ok-paths.paths c.add_unit.new.paths)
      (sym (map_push unit_facts c.loop-unit.yielded c.in-Some.unit))
      (adds-one_more c.loop-unit.invariant.adds c.in_ok-add_unit.ensures.adds);
  reader = c.in_ok-add_unit.ensures.reader ∙ c.loop-unit.invariant.reader;
  read = c.in_ok-add_unit.ensures.read;
}

pub returns-clause-exact : goal.returns-clause-exact
returns-clause-exact c =
    let whole = YieldsList-end
    (YieldsList-from_first unit_facts units_left {s = c.into_iter-unit-iterator.result} (units_left c.units-unit-items.result)
    (ap units_left c.into_iter-unit-iterator.ensures.into_iter_gives))
    c.loop-unit.yielded c.loop-unit.unit-iterator c.loop-unit.yielded_by c.next.result c.next.new.self c.in-None.is c.next.ensures.steps in
    subst (λ (set : BTreeSet (List ℕ)). (path : List ℕ) → Has set path ↔ IsSource (sections_of c.args.parts.now) path)
    (sym c.into_paths.ensures.same)
    (units-exact (sections_of c.args.parts.now) c.units-unit-items.ensures whole.0 c.in_ok-paths.ensures c.loop-unit.invariant.adds)

pub loop-unit-init : goal.loop-unit-init
loop-unit-init c = record {
  adds = adds-none_of (IsUnitSource (sections_of c.args.parts.now)) c.in_ok-paths.paths;
  reader = c.new-reader.ensures;
  read = c.new-tables.ensures (sections_of c.args.parts.now) c.in_ok-paths.paths;
}
