use Rattle.std.proofs.Common.{◌≡◌, ℕ, List, map, take}
use Rattle.std.specs.Borrow.{Bor}
use Rattle.sample_rows.proofs.naming.paths.Given as goal

abbrev pub invariant-loop-text : goal.invariant-loop-text
invariant-loop-text l = l.paths.items ≡ map (λ (text : Bor (List ℕ)). text.now) (take l.text-index l.texts)
