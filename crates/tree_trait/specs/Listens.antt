-- What a hand heard in some calls (this project's rule): a list of questions with their answers.
use Rattle.std.specs.Prelude.{◌≡◌, ℕ, Bool, true, false, if◌then◌else◌, List, [], ◌∷◌, All, Option, IsSome, IsTrue}
use Rattle.std.specs.List.{count_by}
use Rattle.tree_trait.specs.Asks.{FitsAny, IsAnswerTold}
use Rattle.tree_trait.specs.Found.{Versions}
use Rattle.tree_trait.specs.Heard.{Heard, IsNoRead, load, open_file, wants_memory, with_answers}
use Rattle.tree_trait.specs.Shown.{HandsOn, ShownTree}

-- the list of questions with these more, wherever it is told still; it always is where no open file was read among them
pub record ListsAnswers (before : Option (List Heard)) (answers : List Heard) (after : Option (List Heard)) : Type 0 where
  pub told : IsSome after → after ≡ with_answers before answers
  pub unread : All IsNoRead answers → after ≡ with_answers before answers

-- the hand heard this, and no more
pub record Listens (told : Bool) (version : Versions) (before after : ShownTree) (answers : List Heard)
    : Type 0 where
  pub heard : ListsAnswers before.heard answers after.heard
  pub fits : All (FitsAny version) answers
  pub tells : IsTrue told → before.Still → All (IsAnswerTold before.present) answers
  pub hand : HandsOn told version before after ⊥ ⊥

-- what is heard of a question, which is nothing where memory was refused
abbrev pub heard_or_none : Heard → List Heard
heard_or_none asked = if wants_memory asked then [] else asked ∷ []

-- whether the question was a load or an opening
abbrev pub is_load : Heard → Bool
is_load (load path limit answer) = true
is_load (open_file path limit answer) = true
is_load _ = false

-- how many loads and openings were heard
abbrev pub loads : List Heard → ℕ
loads answers = count_by is_load answers
