-- The tree in memory (this project's rule): it answers by its script.
use Rattle.std.specs.Prelude.{◌≡◌, ℕ, ◌≤◌, ◌<◌, Bool, false, if◌then◌else◌, List, [], ◌∷◌, map, length}
use Rattle.std.specs.Prelude.{All, IsTrue, IsSome, Option, Some}
use Rattle.row_types.specs.Faults.{raised}
use Rattle.row_types.specs.Name.{NameFacts}
use Rattle.tree_trait.specs.Asks.{FitsAny, IsAnswerTold}
use Rattle.tree_trait.specs.Found.{IsFound, Versions}
use Rattle.tree_trait.specs.Heard.{Heard, call_failed, wants_memory, with_answers}
use Rattle.tree_trait.specs.Present.{are_apart}
use Rattle.tree_trait.specs.Script.{ScriptFacts, is_script, is_call_listed, stage_for, names_at}
use Rattle.tree_trait.specs.Shown.{ShownTree}
use Rattle.tree_trait.specs.Swaps.{SwapsFacts, no_swaps, read_once}

-- the script, the stage that stands, the next call's number, the questions so far, where they are told, the count of faults, and
-- what is swapped
pub record TreeFacts : Type 0 where
  pub script : ScriptFacts
  pub stage : ℕ
  pub calls : ℕ
  pub heard : Option (List Heard)
  pub faults : ℕ
  pub swaps : SwapsFacts

-- a tree that was asked nothing yet
abbrev pub fresh_tree : ScriptFacts → TreeFacts
fresh_tree script = record { script = script; stage = 0; calls = 0; heard = Some []; faults = 0; swaps = no_swaps }

-- the script is sound, the stage is one of its, and each file is a version of the world
pub record IsScripted (version : Versions) (script : ScriptFacts) (stage : ℕ) : Type 0 where
  pub sound : IsTrue (is_script script)
  pub placed : stage < length script.stages
  pub known : All (All (IsFound version)) script.stages

-- the names that are there now
abbrev pub present_in : TreeFacts → List NameFacts
present_in tree = names_at tree.script tree.stage

-- no later stage has other names, and no path lies under another
pub record IsStill (tree : TreeFacts) : Type 0 where
  pub rests : (stage : ℕ) → tree.stage ≤ stage → stage < length tree.script.stages
      → names_at tree.script stage ≡ present_in tree
  pub apart : IsTrue (are_apart (map (λ name. name.path) (present_in tree)))

-- the stage in which the next call is answered
abbrev pub next_stage : TreeFacts → ℕ
next_stage tree = stage_for tree.script.moves tree.calls tree.stage (length tree.script.stages)

-- what the tree shows
abbrev pub tree_shows : TreeFacts → ShownTree
tree_shows tree = record {
  present = present_in tree;
  Still = IsStill tree;
  heard = tree.heard;
  faults = tree.faults;
}

-- the tree after a call that was answered
abbrev pub answered : TreeFacts → Heard → TreeFacts
answered tree asked = record tree {
  stage = next_stage tree;
  calls = raised tree.calls;
  heard = with_answers tree.heard (asked ∷ []);
  faults = if call_failed asked then raised tree.faults else tree.faults;
}

-- the tree after a call; after want of memory it is as it was
abbrev pub tree_after : TreeFacts → Heard → TreeFacts
tree_after tree asked = if wants_memory asked then tree else answered tree asked

-- the tree with these questions
abbrev pub with_heard : TreeFacts → Option (List Heard) → TreeFacts
with_heard tree heard = record tree { heard = heard }

-- the tree with this swapped
abbrev pub with_swaps : TreeFacts → SwapsFacts → TreeFacts
with_swaps tree swaps = record tree { swaps = swaps }

-- the tree with one more call counted, which was answered in this stage
abbrev pub moved_to : TreeFacts → ℕ → Bool → TreeFacts
moved_to tree stage failed = record tree {
  stage = stage;
  calls = raised tree.calls;
  faults = if failed then raised tree.faults else tree.faults;
}

-- whether the next call's number is among those that fail
abbrev pub is_bad_call : TreeFacts → Bool
is_bad_call tree = is_call_listed tree.script.bad_calls tree.calls

-- the call fails exactly where its number is listed, want of memory apart
abbrev pub FailsAsListed : Bool → Heard → Type 0
FailsAsListed bad asked = wants_memory asked ≡ false → call_failed asked ≡ bad

-- the call is answered by the files of a stage
pub record IsStageAnswer (version : Versions) (bad : Bool) (present : List NameFacts)
    (asked : Heard) : Type 0 where
  pub fits : FitsAny version asked
  pub tells : IsAnswerTold present asked
  pub fails : FailsAsListed bad asked

-- the call is answered by the script
pub record RunsScript (before after : TreeFacts) (asked : Heard) : Type 0 where
  pub fails : FailsAsListed (is_bad_call before) asked
  pub ends : after ≡ tree_after before asked

-- the read of an open file is answered by the script, and listed if there is memory for it; else the questions aren't told from
-- there on
pub record RunsRead (before after : TreeFacts) (asked : Heard) : Type 0 where
  pub fails : call_failed asked ≡ is_bad_call before
  pub listed : IsSome after.heard → after.heard ≡ with_answers before.heard (asked ∷ [])
  pub ends : after ≡ with_swaps (with_heard (answered before asked) after.heard) (read_once before.swaps)
