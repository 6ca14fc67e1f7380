-- Files of a tree in memory that have other bytes from a read on (this project's rule).
use Rattle.std.specs.Prelude.{◌≡◌, ℕ, ◌==◌, ◌&&◌, nat_le, Bool, true, List, [], ◌∷◌, length, option_map}
use Rattle.std.specs.List.{find}
use Rattle.std.specs.Option.{unwrap_or}
use Rattle.std.specs.Str.{bytes_eq}
use Rattle.row_types.specs.Faults.{raised}
use Rattle.tree_trait.specs.Found.{FoundFacts}

-- from the read of this number on, counted from 0 over all open files, a file of this path reads as these bytes
pub record SwapFacts : Type 0 where
  pub call : ℕ
  pub path : List ℕ
  pub bytes : List ℕ

-- the swap of these
abbrev pub swap_of : ℕ → List ℕ → List ℕ → SwapFacts
swap_of call path bytes = record { call = call; path = path; bytes = bytes }

-- how often an open file was read, and what is swapped, the newest first
pub record SwapsFacts : Type 0 where
  pub reads : ℕ
  pub list : List SwapFacts

-- nothing is swapped, and nothing was read
abbrev pub no_swaps : SwapsFacts
no_swaps = record { reads = 0; list = [] }

-- one more, which is the newest
abbrev pub swapped : SwapsFacts → ℕ → List ℕ → List ℕ → SwapsFacts
swapped swaps call path bytes = record swaps { list = swap_of call path bytes ∷ swaps.list }

-- after one more read
abbrev pub read_once : SwapsFacts → SwapsFacts
read_once swaps = record swaps { reads = raised swaps.reads }

-- whether a read of this number of the file is one of other bytes: as many stand for its path from there on
abbrev pub has_swapped : ℕ → FoundFacts → SwapFacts → Bool
has_swapped reads file swap = nat_le swap.call reads && bytes_eq swap.path file.path && (length swap.bytes == length file.bytes)

-- what the file reads as: the newest bytes that stand for its own, or these
abbrev pub bytes_seen : SwapsFacts → FoundFacts → List ℕ
bytes_seen swaps file =
    unwrap_or (option_map (λ swap. swap.bytes) (find (has_swapped swaps.reads file) swaps.list)) file.bytes

-- in a told world nothing is swapped
pub record HasNoneTold (told : Bool) (list : List SwapFacts) : Type 0 where
  pub none : told ≡ true → list ≡ []
