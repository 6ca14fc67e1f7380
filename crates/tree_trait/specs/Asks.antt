-- What a call of a tree says (this project's rule), by the question with its answer.
use Rattle.std.specs.Prelude.{◌≡◌, Bool, List, [], ◌∷◌, IsSome, IsTrue}
use Rattle.row_types.specs.Name.{NameFacts}
use Rattle.tree_trait.specs.Dir.{TellsDir}
use Rattle.tree_trait.specs.Found.{Versions}
use Rattle.tree_trait.specs.Heard.{Heard, load, stat, read_dir, open_file, read_at, call_failed, list_after, with_answers}
use Rattle.tree_trait.specs.Load.{FitsLoad, TellsLoad}
use Rattle.tree_trait.specs.Open.{FitsOpening, TellsOpening}
use Rattle.tree_trait.specs.Shown.{ShownTree, HandsOn}
use Rattle.tree_trait.specs.Stat.{TellsStat}

-- the answer is one that any tree may give
abbrev pub FitsAny : Versions → Heard → Type 0
FitsAny version (load path limit answer) = FitsLoad version path limit answer
FitsAny version (open_file path limit answer) = FitsOpening version path limit answer
FitsAny version _ = Unit {0}

-- the answer is that of the files that are there; a file that was opened is read whatever stands at its path since
abbrev pub IsAnswerTold : List NameFacts → Heard → Type 0
IsAnswerTold present (load path limit answer) = TellsLoad present path answer
IsAnswerTold present (stat path answer) = TellsStat present path answer
IsAnswerTold present (read_dir path answer) = TellsDir present path answer
IsAnswerTold present (open_file path limit answer) = TellsOpening present path answer
IsAnswerTold present (read_at name at answer) = Unit {0}

-- the tree was asked once, and answered: by the names that are there as the call ends, where it is told; the
-- question is listed; and the tree is handed on
pub record AsksTree (told : Bool) (version : Versions) (before after : ShownTree) (asked : Heard) : Type 0 where
  pub fits : FitsAny version asked
  pub tells : IsTrue told → IsAnswerTold after.present asked
  pub listed : after.heard ≡ list_after before.heard asked
  pub hands : HandsOn told version before after (Unit {0}) (IsTrue (call_failed asked))

-- an open file was read once: the read is listed with its answer, unless memory for that is refused, and then the questions
-- aren't told from there on; and the tree is handed on
pub record ReadsOpened (told : Bool) (version : Versions) (before after : ShownTree) (asked : Heard) : Type 0 where
  pub listed : IsSome after.heard → after.heard ≡ with_answers before.heard (asked ∷ [])
  pub hands : HandsOn told version before after (Unit {0}) (IsTrue (call_failed asked))
