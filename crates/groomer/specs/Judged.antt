-- How many names are missed by a judgement, and by what was seen (this project's rule).
use Rattle.std.specs.Prelude.{ℕ}
use Rattle.index_state.specs.declared.answer.Judged.{Judged}
use Rattle.index_state.specs.declared.answer.Judged.TheVariants.{Strange}
use Rattle.scan_queue.specs.declared.miss.Seen.{Seen}
use Rattle.scan_queue.specs.declared.miss.Seen.TheVariants.{File}

-- how many names were missed by it
abbrev pub miss_by : Judged → ℕ
miss_by Strange = 1
miss_by _ = 0

-- how many names may be missed by what was seen
abbrev pub miss_of : Seen → ℕ
miss_of (File stamp) = 1
miss_of _ = 0
