use Rattle.std.proofs.Common.{subst}
use Rattle.std.proofs.lemmas.Result.{on_ok_weaker}
use Rattle.dwarf_forms.specs.Tells.{TellsOnly}
use Rattle.dwarf_lines.specs.Finds.{as_it_is}
use Rattle.row_types.specs.Sources.{Names}
use Rattle.source_paths.proofs.NameLemmas.{adds-named}
use Rattle.source_paths.proofs.named.add_named.Goals as goal

pub returns-clause-adds : goal.returns-clause-adds
returns-clause-adds c =
    on_ok_weaker c.insert.result
    (adds-named (subst (TellsOnly as_it_is (Names c.args.text.items)) c.in-Some.is c.in_ok-path.ensures)) c.insert.ensures.updates
