-- What a read of a connection gives (this project's rule).
use Rattle.std.specs.Prelude.{ℕ, ◌+◌, ◌<◌, ◌≤◌, ◌==◌, List, length, if◌then◌else◌}
use Rattle.http_wire.specs.declared.source.ReadAnswer.{ReadAnswer}
use Rattle.http_wire.specs.declared.source.ReadAnswer.TheVariants as read
use Rattle.dbgd_edges.specs.declared.moment.Moment.{Moment}
use Rattle.dbgd_edges.specs.declared.moment.Moment.TheVariants as moment

-- what came stands in the room behind what is known
abbrev pub GivesMoment : List ℕ → ℕ → Moment → Type 0
GivesMoment room known (moment.Bytes n) = (0 < n) × (known + n ≤ length room)
GivesMoment room known any_other = Unit {0}

-- the answer that gives so many bytes, or the end where they are none
abbrev pub answer_with : ℕ → ReadAnswer
answer_with count = if count == 0 then read.End else read.Bytes count
