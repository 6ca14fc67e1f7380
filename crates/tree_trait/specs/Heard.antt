-- What a tree was asked and answered (this project's rule): a list of the questions with their answers, in
-- order. An answer for want of memory isn't listed.
use Rattle.std.specs.Prelude.{ℕ, Bool, true, false, List, [], ◌∷◌, ◌++◌, Option, option_map, if◌then◌else◌}
use Rattle.row_types.specs.Name.{NameFacts}
use Rattle.tree_trait.specs.Dir.{DirFacts, dir_failed, dir_no_memory}
use Rattle.tree_trait.specs.Load.{LoadFacts, failed, no_memory}
use Rattle.tree_trait.specs.Open.{OpenFacts, RoomFacts, open_failed, open_no_memory, room_failed}
use Rattle.tree_trait.specs.declared.stat.StatAnswer.{StatAnswer}
use Rattle.tree_trait.specs.declared.stat.StatAnswer.TheVariants.{Failed, OutOfMemory}

-- a question with its answer; a read of an open file names it by the path and the stamp with which it was opened, and the place
-- of the first byte
pub data Heard : Type 0 where
  load : (path : List ℕ) (limit : ℕ) (answer : LoadFacts) → Heard
  stat : (path : List ℕ) (answer : StatAnswer) → Heard
  read_dir : (path : List ℕ) (answer : DirFacts) → Heard
  open_file : (path : List ℕ) (limit : ℕ) (answer : OpenFacts) → Heard
  read_at : (name : NameFacts) (at : ℕ) (answer : RoomFacts) → Heard

-- whether the call failed
abbrev pub call_failed : Heard → Bool
call_failed (load path limit failed) = true
call_failed (stat path Failed) = true
call_failed (read_dir path dir_failed) = true
call_failed (open_file path limit open_failed) = true
call_failed (read_at name at (room_failed len)) = true
call_failed _ = false

-- whether memory was refused
abbrev pub wants_memory : Heard → Bool
wants_memory (load path limit no_memory) = true
wants_memory (stat path OutOfMemory) = true
wants_memory (read_dir path dir_no_memory) = true
wants_memory (open_file path limit open_no_memory) = true
wants_memory _ = false

-- it was no read of an open file, the one call that may go on where memory to list it is refused
abbrev pub IsNoRead : Heard → Type 0
IsNoRead (read_at name at answer) = ⊥
IsNoRead _ = Unit {0}

-- the list with more answers, where it is told
abbrev pub with_answers : Option (List Heard) → List Heard → Option (List Heard)
with_answers told answers = option_map (λ entries. entries ++ answers) told

-- the list after a call
abbrev pub list_after : Option (List Heard) → Heard → Option (List Heard)
list_after told asked = if wants_memory asked then told else with_answers told (asked ∷ [])
