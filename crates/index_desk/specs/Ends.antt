-- What a log shows of an answer, and of the end of the work on a pass (this project's rule).
use Rattle.std.specs.Prelude.{◌≡◌, ℕ, List, length, Option, Some, None}
use Rattle.index_rows.specs.declared.change.Change.{Change}
use Rattle.index_rows.specs.declared.rows.TheConstants.{LOG_LIMIT}
use Rattle.index_state.specs.Changes.{EndsVoid}
use Rattle.index_state.specs.declared.answer.Judged.{Judged}
use Rattle.index_state.specs.declared.answer.Judged.TheVariants as judged
use Rattle.index_state.specs.declared.answer.Published.{Published}
use Rattle.index_state.specs.declared.answer.Published.TheVariants as said
use Rattle.index_desk.specs.declared.work_end.WorkEnd.{WorkEnd}
use Rattle.index_desk.specs.declared.work_end.WorkEnd.TheVariants.{Empty, Broken, KeeperFault, LogFull, OutOfMemory}

-- the index is broken where the log ends in a void change, and the log is full at its limit; of the other ends it shows
-- nothing
abbrev pub EndShows : WorkEnd → List Change → Type 0
EndShows Broken log = EndsVoid log
EndShows KeeperFault log = EndsVoid log
EndShows LogFull log = length log ≡ LOG_LIMIT
EndShows Empty log = Unit {0}
EndShows OutOfMemory log = Unit {0}

-- the same where the work ended
abbrev pub EndsShow : Option WorkEnd → List Change → Type 0
EndsShow None log = Unit {0}
EndsShow (Some end) log = EndShows end log

-- what the log shows of the answer to a row
abbrev pub PublishedShows : Published → List Change → Type 0
PublishedShows said.Broken log = EndsVoid log
PublishedShows said.KeeperFault log = EndsVoid log
PublishedShows said.LogFull log = length log ≡ LOG_LIMIT
PublishedShows _ log = Unit {0}

-- how many names were put by this answer
abbrev pub put_by : Published → ℕ
put_by said.Added = 1
put_by said.Replaced = 1
put_by _ = 0

-- what the log shows of a judgement
abbrev pub JudgedShows : Judged → List Change → Type 0
JudgedShows judged.Broken log = EndsVoid log
JudgedShows judged.KeeperFault log = EndsVoid log
JudgedShows judged.LogFull log = length log ≡ LOG_LIMIT
JudgedShows _ log = Unit {0}

-- how many rows were dropped by this judgement
abbrev pub drop_by : Judged → ℕ
drop_by judged.Dropped = 1
drop_by _ = 0
