-- In the names that are left the path is found as in all, and the same names are behind it.
use Rattle.std.proofs.Common.{◌≡◌, length}
use Rattle.row_types.specs.Name.{stamp_at}
use Rattle.scan_queue.specs.Names.{IsByPath}
use Rattle.index_state.specs.Seen.{behind}
use Rattle.index_state.proofs.seen.pass_to.Given as goal

abbrev pub invariant-loop-name : goal.invariant-loop-name
invariant-loop-name l = record {
  stamp : stamp_at l.left l.path ≡ stamp_at l.names l.path;
  rest : behind l.path l.left ≡ behind l.path l.names;
  by_path : IsByPath l.left;
}

abbrev pub decreases-loop-name : goal.decreases-loop-name
decreases-loop-name l = length l.left
