use Rattle.std.proofs.Common.{◌≡◌}
use Rattle.scan_queue.specs.Pass.{names_of}
use Rattle.index_tests.proofs.queues.large_marked.Given as goal

abbrev pub invariant-loop-name : goal.invariant-loop-name
invariant-loop-name g l = names_of l.current.items ≡ l.yielded
