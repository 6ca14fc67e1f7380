-- How many changes of a kind a log has (this project's rule).
use Rattle.std.specs.Prelude.{ℕ, not, List}
use Rattle.std.specs.List.{count_by}
use Rattle.index_rows.specs.declared.change.Change.{Change}

-- how many names were put
abbrev pub puts : List Change → ℕ
puts log = count_by (λ change. change.put) log

-- how many names were dropped
abbrev pub drops : List Change → ℕ
drops log = count_by (λ change. not change.put) log
