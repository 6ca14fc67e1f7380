-- A tree of generated files (this project's rule): it never fails and never changes.
use Rattle.std.specs.Prelude.{◌≡◌, ℕ, nat_lt, false, if◌then◌else◌, List, [], ◌∷◌, Option, Some, None, IsSome}
use Rattle.std.specs.String.{string_bytes}
use Rattle.tree_trait.specs.Dir.{DirFacts, listed, no_dir}
use Rattle.tree_trait.specs.Found.{FoundFacts, found_facts}
use Rattle.tree_trait.specs.Heard.{Heard, load, stat, read_dir, open_file, read_at, wants_memory, with_answers}
use Rattle.tree_trait.specs.Load.{LoadFacts, loaded, too_large, gone}
use Rattle.tree_trait.specs.Open.{OpenFacts, was_opened, was_too_large, open_gone, room_filled}
use Rattle.tree_trait.specs.Shown.{ShownTree}
use Rattle.tree_trait.specs.declared.opening.OpenAnswer.{OpenAnswer}
use Rattle.tree_trait.specs.declared.opening.OpenAnswer.TheVariants.{Opened}
use Rattle.tree_trait.specs.declared.stat.StatAnswer.{StatAnswer}
use Rattle.tree_trait.specs.declared.stat.StatAnswer.TheVariants as found
use Rattle.elf_forge.specs.Forge.{forged}
use Rattle.elf_forge.specs.Place.{forged_entries, folder_among, forged_names, forged_number_at, forged_stamp}
use Rattle.elf_forge.specs.declared.folder.Folder.{Folder}
use Rattle.elf_forge.specs.declared.question.Question.{Question}
use Rattle.elf_forge.specs.declared.question.Question.TheVariants.{Load, Stat, ReadDir, Open, Read}

-- the seed, the number of files, and the questions so far with their answers, where they are told
pub record ForgeFacts : Type 0 where
  pub seed : ℕ
  pub files : ℕ
  pub heard : Option (List Heard)

-- a tree that was asked nothing yet
abbrev pub fresh_forge : ℕ → ℕ → ForgeFacts
fresh_forge seed files = record { seed = seed; files = files; heard = Some [] }

-- what the load of the file of a number answers, if there is one
abbrev pub load_answered : ℕ → List ℕ → ℕ → Option ℕ → LoadFacts
load_answered seed path limit None = gone
load_answered seed path limit (Some k) =
    if nat_lt limit (forged_stamp seed k).size then too_large (forged_stamp seed k)
    else loaded (found_facts path (forged_stamp seed k) (forged seed k))

-- what a load answers
abbrev pub load_answer : ℕ → ℕ → List ℕ → ℕ → LoadFacts
load_answer seed files path limit = load_answered seed path limit (forged_number_at files path)

-- what the opening of the file of a number answers, if there is one
abbrev pub open_answered : ℕ → ℕ → Option ℕ → OpenFacts
open_answered seed limit None = open_gone
open_answered seed limit (Some k) =
    if nat_lt limit (forged_stamp seed k).size then was_too_large (forged_stamp seed k) else was_opened (forged_stamp seed k)

-- what an opening answers
abbrev pub open_answer : ℕ → ℕ → List ℕ → ℕ → OpenFacts
open_answer seed files path limit = open_answered seed limit (forged_number_at files path)

-- the file is the generated one of the number at its path
abbrev pub IsForgedOf : ℕ → List ℕ → FoundFacts → Option ℕ → Type 0
IsForgedOf seed path file None = ⊥
IsForgedOf seed path file (Some k) = file ≡ found_facts path (forged_stamp seed k) (forged seed k)

-- the file that was opened, if one was, has the bytes of the generated one at the path
abbrev pub OpensForged : ℕ → ℕ → List ℕ → OpenAnswer FoundFacts → Type 0
OpensForged seed files path (Opened file stamp) = IsForgedOf seed path file (forged_number_at files path)
OpensForged seed files path _ = Unit {0}

-- what a look answers, by the folder and the number of the file there
abbrev pub stat_answered : ℕ → Option Folder → Option ℕ → StatAnswer
stat_answered seed folder (Some k) = found.File (forged_stamp seed k)
stat_answered seed (Some folder) None = found.Folder
stat_answered seed None None = found.Gone

-- what a look answers
abbrev pub stat_answer : ℕ → ℕ → List ℕ → StatAnswer
stat_answer seed files path = stat_answered seed (folder_among files path) (forged_number_at files path)

-- what the reading of a folder answers, if there is one
abbrev pub dir_answered : ℕ → Option Folder → DirFacts
dir_answered files None = no_dir
dir_answered files (Some folder) = listed (forged_entries files folder) 0

-- what the reading of a folder answers
abbrev pub dir_answer : ℕ → List ℕ → DirFacts
dir_answer files path = dir_answered files (folder_among files path)

-- a question that was kept, with its answer
abbrev pub heard_question : ℕ → ℕ → Question → Heard
heard_question seed files (Load path limit) = load (string_bytes path) limit (load_answer seed files (string_bytes path) limit)
heard_question seed files (Stat path) = stat (string_bytes path) (stat_answer seed files (string_bytes path))
heard_question seed files (ReadDir path) = read_dir (string_bytes path) (dir_answer files (string_bytes path))
heard_question seed files (Open path limit) =
    open_file (string_bytes path) limit (open_answer seed files (string_bytes path) limit)
heard_question seed files (Read path stamp at bytes) =
    read_at (record { path = string_bytes path; stamp = stamp }) at (room_filled bytes.items)

-- the answer is that of the generated files; a read of an open file is said apart
abbrev pub IsForgedAnswer : ℕ → ℕ → Heard → Type 0
IsForgedAnswer seed files (load path limit answer) = answer ≡ load_answer seed files path limit
IsForgedAnswer seed files (stat path answer) = answer ≡ stat_answer seed files path
IsForgedAnswer seed files (read_dir path answer) = answer ≡ dir_answer files path
IsForgedAnswer seed files (open_file path limit answer) = answer ≡ open_answer seed files path limit
IsForgedAnswer seed files (read_at name at answer) = ⊥

-- the tree after a call; after want of memory it is as it was
abbrev pub forge_after : ForgeFacts → Heard → ForgeFacts
forge_after tree asked = if wants_memory asked then tree else record tree { heard = with_answers tree.heard (asked ∷ []) }

-- the call is answered by the generated files, want of memory apart
pub record RunsForged (before after : ForgeFacts) (asked : Heard) : Type 0 where
  pub answers : wants_memory asked ≡ false → IsForgedAnswer before.seed before.files asked
  pub ends : after ≡ forge_after before asked

-- the read is listed if there is memory for it; else the questions aren't told from there on
pub record ReadsForged (before after : ForgeFacts) (asked : Heard) : Type 0 where
  pub listed : IsSome after.heard → after.heard ≡ with_answers before.heard (asked ∷ [])
  pub ends : after ≡ record before { heard = after.heard }

-- what the tree shows: its names never change, and it has never failed
abbrev pub forge_shows : ForgeFacts → ShownTree
forge_shows tree = record {
  present = forged_names tree.seed tree.files;
  Still = Unit {0};
  heard = tree.heard;
  faults = 0;
}
