-- The script of a tree in memory (this project's rule).
use Rattle.std.specs.Prelude.{ℕ, ◌+◌, ◌==◌, ◌&&◌, nat_lt, Bool, if◌then◌else◌, List, [], map, length}
use Rattle.std.specs.Prelude.{slice_index_or}
use Rattle.std.specs.List.{list_any, list_all}
use Rattle.row_types.specs.Canon.{is_canonical}
use Rattle.row_types.specs.Name.{NameFacts}
use Rattle.tree_trait.specs.Found.{FoundFacts, found_name}
use Rattle.tree_trait.specs.Present.{are_distinct}

-- the files at each stage, and the numbers of the calls before which the next stage begins, and that fail
pub record ScriptFacts : Type 0 where
  pub stages : List (List FoundFacts)
  pub moves : List ℕ
  pub bad_calls : List ℕ

-- whether the paths of a stage are canonical, and none stands twice
abbrev pub is_stage : List FoundFacts → Bool
is_stage files = list_all (λ file. is_canonical file.path) files && are_distinct (map (λ file. file.path) files)

-- whether there is a stage, and each stage's paths are canonical and distinct
abbrev pub is_script : ScriptFacts → Bool
is_script script = nat_lt 0 (length script.stages) && list_all is_stage script.stages

-- whether the call of this number is among the numbers
abbrev pub is_call_listed : List ℕ → ℕ → Bool
is_call_listed numbers call = list_any (λ number. number == call) numbers

-- the stage, of so many, in which the call of this number is answered, if the one before was in this stage
abbrev pub stage_for : List ℕ → ℕ → ℕ → ℕ → ℕ
stage_for moves call stage count = if is_call_listed moves call && nat_lt (stage + 1) count then stage + 1 else stage

-- the names of the files at a stage
abbrev pub names_at : ScriptFacts → ℕ → List NameFacts
names_at script stage = map found_name (slice_index_or script.stages stage [])
