-- The tree of a store in memory (this project's rule): each entry is a row of the tables.
use Rattle.std.specs.Prelude.{ℕ, List, map, String, string_bytes, Vec}
use Rattle.std.specs.declared.alloc.Global.{Global}
use Rattle.index_keeper.specs.Tables.{KeptFacts}

-- an entry's row
abbrev pub kept_entry : String Global × Vec ℕ Global → KeptFacts
kept_entry entry = record { path = string_bytes entry.0; bytes = entry.1.items }

-- the rows in a tree's entries
abbrev pub kept_in : List (String Global × Vec ℕ Global) → List KeptFacts
kept_in entries = map kept_entry entries
