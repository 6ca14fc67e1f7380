-- Bytes came behind the held ones, and where they aren't looked at they hold no whole head, and one may come of them.
use Rattle.std.proofs.Common.{◌≡◌, ◌-◌, ℕ, Bool, false, List, length}
use Rattle.httparse.specs.Grammar.{HasNoRequest}
use Rattle.http_wire.specs.Find.{Gathers}
use Rattle.http_wire.specs.Heads.{IsStillOpen}
use Rattle.http_wire.specs.Stream.{ShownStream}
use Rattle.http_wire.specs.declared.limits.TheConstants.{HEAD_LIMIT}
use Rattle.http_wire.proofs.find.find_next.Given as goal

-- so far these bytes came
pub record IsSoFar (held : List ℕ) (before : ShownStream) (now : List ℕ) (after : ShownStream) (look : Bool) : Type 0 where
  pub gathers : Gathers held before now after
  pub looked : look ≡ false → HasNoRequest now
  pub still : look ≡ false → IsStillOpen now

abbrev pub invariant-loop-look : goal.invariant-loop-look
invariant-loop-look g l =
    IsSoFar l.fn.room (g.S.Stream.shows l.fn.source) l.room (g.S.Stream.shows l.source) l.look

abbrev pub decreases-loop-look : goal.decreases-loop-look
decreases-loop-look g l = HEAD_LIMIT - length l.room
