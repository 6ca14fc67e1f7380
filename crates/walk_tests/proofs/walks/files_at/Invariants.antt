use Rattle.std.proofs.Common.{◌≡◌, map, take}
use Rattle.walk_tests.proofs.walks.files_at.Given as goal

abbrev pub invariant-loop-path : goal.invariant-loop-path
invariant-loop-path g l = map (λ file. file.path) l.files.items ≡ map (λ path. path.now)
    (take l.path-index l.paths)
