use Rattle.std.proofs.Common.{None, arith}
use Rattle.dwarf_lines.specs.Entries.{file_facts}
use Rattle.source_paths.proofs.AddLemmas.{adds-all, adds-next, adds-none_of}
use Rattle.source_paths.proofs.files.add_each.Goals as goal

pub loop-file-preserved : goal.loop-file-preserved
loop-file-preserved c =
    adds-next file_facts c.args.files.now c.loop-file.file-index (record { path = None; dir = None }) (omega arith)
    c.loop-file.invariant c.in_ok-add_file.ensures

pub loop-file-init : goal.loop-file-init
loop-file-init c = adds-none_of _ _

pub returns : goal.returns
returns c = adds-all file_facts c.args.files.now c.loop-file.file-index (omega arith) c.loop-file.invariant
