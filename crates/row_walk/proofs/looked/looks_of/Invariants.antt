-- What was looked at, and what the changes that are left name, is all.
use Rattle.std.proofs.Common.{◌≡◌, ◌++◌, drop}
use Rattle.row_walk.specs.Looked.{looks_of}
use Rattle.row_walk.proofs.looked.looks_of.Given as goal

abbrev pub invariant-loop-change : goal.invariant-loop-change
invariant-loop-change g l = l.looks.items ++ looks_of l.place l.index.rows (drop l.change-index l.changes) ≡ looks_of l.place l.index.rows l.changes
