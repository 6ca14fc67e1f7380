use Rattle.std.proofs.Common.{subst}
use Rattle.std.proofs.lemmas.Result.{on_ok_weaker}
use Rattle.dwarf_forms.specs.Parts.{sections_of}
use Rattle.dwarf_forms.specs.Tells.{TellsOnly}
use Rattle.dwarf_lines.specs.Finds.{as_it_is}
use Rattle.source_paths.specs.Keys.{IsTableFor}
use Rattle.source_paths.proofs.AddLemmas.{adds-nothing}
use Rattle.source_paths.proofs.KeyLemmas.{table-nowhere, table-adds}
use Rattle.source_paths.proofs.tables.add_read.Goals as goal

pub returns-in-None : goal.returns-in-None
returns-in-None c =
    let s = sections_of c.args.parts.now in
    let key = c.args.key.now in
    adds-nothing c.args.paths.now
    (table-nowhere s key (subst (TellsOnly as_it_is (IsTableFor s key.offset key.base)) c.in-None.is c.requires.here))

pub returns-in-Some : goal.returns-in-Some
returns-in-Some c =
    let s = sections_of c.args.parts.now in
    let key = c.args.key.now in
    on_ok_weaker c.add_files.result
    (table-adds s key (subst (TellsOnly as_it_is (IsTableFor s key.offset key.base)) c.in-Some.is c.requires.here))
    c.add_files.ensures
