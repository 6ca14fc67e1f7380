use Rattle.std.proofs.Common.{◌≡◌, ℕ, List, map, take}
use Rattle.std.specs.Borrow.{Bor}
use Rattle.sample_rows.specs.Names.{sample_name}
use Rattle.sample_rows.proofs.naming.names.Given as goal

abbrev pub invariant-loop-text : goal.invariant-loop-text
invariant-loop-text l = l.names.items ≡ map (λ (file : Bor (List ℕ) × ℕ). sample_name file.0.now file.1) (take l.text-index l.files)
