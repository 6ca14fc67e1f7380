use Rattle.std.proofs.Common.{ℕ, ◌+◌, length}
use Rattle.page_tests.proofs.globs.+matches_plainly.Given as goal

abbrev pub decreases-matches_plainly : goal.decreases-matches_plainly
decreases-matches_plainly l = length l.pattern.now + length l.text.now
