-- Loads that the work on a pass may leave uncounted, by how it ended (this project's rule).
use Rattle.std.specs.Prelude.{ℕ, Option, Some, None}
use Rattle.index_desk.specs.declared.work_end.WorkEnd.{WorkEnd}
use Rattle.index_desk.specs.declared.work_end.WorkEnd.TheVariants.{OutOfMemory}

-- how many answered openings the work may leave uncounted: one, where memory was refused
abbrev pub uncounted_at : WorkEnd → ℕ
uncounted_at OutOfMemory = 1
uncounted_at _ = 0

-- the same where it may go on
abbrev pub uncounted : Option WorkEnd → ℕ
uncounted None = 0
uncounted (Some end) = uncounted_at end
