use Rattle.std.proofs.Common.{ℕ, List, Option, ap, sym, subst, ◌∙◌}
use Rattle.std.proofs.lemmas.Result.{on_ok_weaker}
use Rattle.dwarf_forms.specs.Parts.{sections_of}
use Rattle.dwarf_forms.specs.Tells.{TellsOnly}
use Rattle.dwarf_units.specs.Entries.{die_facts}
use Rattle.dwarf_units.specs.UnitList.{unit_facts}
use Rattle.file_formats.specs.DwarfUnits.{IsRootEntry}
use Rattle.source_paths.specs.declared.tables.TableKey.{TableKey}
use Rattle.source_paths.specs.Keys.{key_entry, short_entry}
use Rattle.source_paths.proofs.AddLemmas.{adds-nothing}
use Rattle.source_paths.proofs.KeyLemmas.{adds-shared, unit-nowhere, unit-unnamed, unit-adds}
use Rattle.source_paths.proofs.tables.add_unit.Goals as goal

pub returns-in_default-clause-adds : goal.returns-in_default-clause-adds
returns-in_default-clause-adds c =
    let s = sections_of c.args.parts.now in
    let unit = unit_facts c.args.unit.now in
    let told = subst (λ x. TellsOnly die_facts (IsRootEntry x unit) c.in_ok-entry.field-0) c.requires.reader c.in_ok-entry.ensures.entry in
    adds-nothing c.args.paths.now (unit-nowhere s unit (subst (TellsOnly die_facts (IsRootEntry s unit)) c.in_default.is told))

pub returns-in_default-stmt_list-clause-adds : goal.returns-in_default-stmt_list-clause-adds
returns-in_default-stmt_list-clause-adds c =
    let s = sections_of c.args.parts.now in
    let unit = unit_facts c.args.unit.now in
    let told = subst (λ x. TellsOnly die_facts (IsRootEntry x unit) c.in_ok-entry.field-0) c.requires.reader c.in_ok-entry.ensures.entry in
    adds-nothing c.args.paths.now
    (unit-unnamed s unit (subst (TellsOnly die_facts (IsRootEntry s unit)) c.in-Some.is told) c.in_default-stmt_list.is)

pub returns-clause-adds : goal.returns-clause-adds
returns-clause-adds c =
    let s = sections_of c.args.parts.now in
    let unit = unit_facts c.args.unit.now in
    let told = subst (λ x. TellsOnly die_facts (IsRootEntry x unit) c.in_ok-entry.field-0) c.requires.reader c.in_ok-entry.ensures.entry in
    let key : TableKey = record {
      offset = c.in-Some-stmt_list.offset;
      base = c.in-Some.entry.base;
      directory = c.short.result;
    } in
    on_ok_weaker c.add_new_table.result
    (λ a. unit-adds s unit (subst (TellsOnly die_facts (IsRootEntry s unit)) c.in-Some.is told) key
    (ap (λ (d : Option (List ℕ)). record (key_entry key) { comp_dir = d }) c.short.ensures
    ∙ ap (λ (n : Option ℕ). record (short_entry (die_facts c.in-Some.entry)) { stmt_list = n }) (sym c.in-Some-stmt_list.is))
    (adds-shared s (c.general.ensures s c.requires.read.fixed) a))
    c.add_new_table.ensures.adds
