use Rattle.std.proofs.Common.{◌≡◌, ◌+◌, ◌∷◌, length}
use Rattle.glob_match.specs.Glob.{is_glob_match}
use Rattle.glob_match.specs.declared.matching.TheConstants.{ANY_TEXT}
use Rattle.glob_match.proofs.matching.matches_parts.Given as goal

abbrev pub invariant-loop-pattern : goal.invariant-loop-pattern
invariant-loop-pattern l = is_glob_match (ANY_TEXT ∷ l.fn.pattern) l.fn.text ≡ is_glob_match (ANY_TEXT ∷ l.pattern) l.text

abbrev pub decreases-loop-pattern : goal.decreases-loop-pattern
decreases-loop-pattern l = length l.pattern + length l.text
