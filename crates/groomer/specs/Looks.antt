-- A look for the file of a row (this project's rule), and the looks of one hand.
use Rattle.std.specs.Prelude.{◌≡◌, ℕ, ◌+◌, ◌≤◌, Bool, true, false, List, All}
use Rattle.std.specs.List.{count_by}
use Rattle.row_types.specs.Faults.{summed}
use Rattle.row_types.specs.Name.{NameFacts}
use Rattle.scan_queue.specs.declared.miss.Seen.TheVariants as seen
use Rattle.tree_trait.specs.Asks.{AsksTree}
use Rattle.tree_trait.specs.Found.{Versions}
use Rattle.tree_trait.specs.Heard.{Heard, stat, call_failed}
use Rattle.tree_trait.specs.Shown.{ShownTree}
use Rattle.tree_trait.specs.declared.stat.StatAnswer.{StatAnswer}
use Rattle.tree_trait.specs.declared.stat.StatAnswer.TheVariants as said
use Rattle.tree_trait.specs.Listens.{Listens}
use Rattle.groomer.specs.declared.looking.Looked.{Looked}
use Rattle.groomer.specs.declared.looking.Looked.TheVariants as looked

-- what a look saw
abbrev pub looked_of : StatAnswer → Looked
looked_of said.Folder = looked.Saw seen.Other
looked_of (said.File stamp) = looked.Saw (seen.File stamp)
looked_of said.Other = looked.Saw seen.Other
looked_of said.Gone = looked.Saw seen.Gone
looked_of said.Failed = looked.Failed
looked_of said.OutOfMemory = looked.OutOfMemory

-- the path of a name was looked at, and this was seen
pub record LooksAtName (told : Bool) (version : Versions) (name : NameFacts) (before after : ShownTree) (end : Looked)
    : Type 0 where
  pub answer : StatAnswer
  pub asks : AsksTree told version before after (stat name.path answer)
  pub saw : end ≡ looked_of answer

-- the question was a look at a path
abbrev pub IsLook : Heard → Type 0
IsLook (stat path answer) = Unit {0}
IsLook _ = ⊥

-- whether a look failed, or found a file
abbrev pub may_miss : Heard → Bool
may_miss (stat path said.Failed) = true
may_miss (stat path (said.File stamp)) = true
may_miss _ = false

-- the hand was asked for looks alone; the number of missed names grew by each look that failed, up to the largest `u64`,
-- and by no more than the looks that failed or found a file
pub record HandLooks (told : Bool) (version : Versions) (before after : ShownTree) (missed more_missed : ℕ) : Type 0 where
  pub more : List Heard
  pub listens : Listens told version before after more
  pub looks : All IsLook more
  pub failed : summed missed (count_by call_failed more) ≤ more_missed
  pub counted : more_missed ≤ missed + count_by may_miss more
