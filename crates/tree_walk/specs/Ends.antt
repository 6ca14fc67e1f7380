-- How a walk ends (this project's rule): at its first fault, or with everything asked.
use Rattle.path_scope.specs.Scope.{Scope, is_under_root}
use Rattle.std.specs.Prelude.{◌≡◌, ◌⊎◌, ℕ, ◌≤◌, ◌<◌, Bool, true, List, [], ◌∷◌, ◌++◌, length, All, Contains}
use Rattle.std.specs.Prelude.{IsTrue, Result, MatchResult}
use Rattle.std.specs.List.{list_all, list_any}
use Rattle.row_types.specs.Name.{NameFacts}
use Rattle.row_types.specs.Under.{is_within}
use Rattle.scan_queue.specs.declared.listing.TheConstants.{LISTING_LIMIT}
use Rattle.tree_trait.specs.Asks.{IsAnswerTold}
use Rattle.tree_trait.specs.Heard.{Heard, load, stat, read_dir, open_file, read_at, call_failed, with_answers}
use Rattle.tree_trait.specs.Shown.{ShownTree}
use Rattle.tree_trait.specs.declared.stat.StatAnswer.{StatAnswer}
use Rattle.tree_trait.specs.declared.stat.StatAnswer.TheVariants.{Gone}
use Rattle.tree_walk.specs.Answers.{entries_read, looks, is_found}
use Rattle.tree_walk.specs.Walked.{AsksAll, IsWalkListing, AsksDue, AsksOnce, IsSkipped}
use Rattle.tree_walk.specs.declared.fault.WalkFault.{WalkFault}
use Rattle.tree_walk.specs.declared.fault.WalkFault.TheVariants.{Failed, TooMany, TooManyEntries, RootGone}
use Rattle.tree_walk.specs.declared.fault.WalkFault.TheVariants.{OutOfMemory}
use Rattle.tree_walk.specs.declared.walked.Walk.{Walk}
use Rattle.tree_walk.specs.declared.walked.TheConstants.{ENTRY_LIMIT}

-- no limit is passed, and no look at a root said that nothing is there
pub record IsWithinLimits (answers : List Heard) (scope : Scope) : Type 0 where
  pub names : List NameFacts
  pub listing : IsWalkListing answers scope names
  pub few : length names ≤ LISTING_LIMIT
  pub entries : entries_read answers ≤ ENTRY_LIMIT
  pub there : (path : List ℕ) → Contains scope.roots path → Contains answers (stat path Gone) → ⊥

-- the roots were looked at first, in the order given, and each is there
pub record BeginsWithRoots (answers : List Heard) (scope : Scope) : Type 0 where
  pub given : List StatAnswer
  pub rest : List Heard
  pub each : length given ≡ length scope.roots
  pub there : list_all is_found given ≡ true
  pub first : answers ≡ looks scope.roots given ++ rest

-- the walk was whole: everything due was asked, each folder once, and this is what it found
pub record IsWholeWalk (answers : List Heard) (scope : Scope) (walk : Walk) : Type 0 where
  pub first : BeginsWithRoots answers scope
  pub full : AsksAll answers scope
  pub once : AsksOnce answers scope
  pub room : IsWithinLimits answers scope
  pub listing : IsWalkListing answers scope walk.listing
  pub skipped : IsSkipped answers scope walk.skipped

-- the roots were looked at first, in the order given: all of them, or as many as there were answers
abbrev pub LooksAtRoots : List Heard → Scope → Type 0
LooksAtRoots answers scope =
    BeginsWithRoots answers scope ⊎ ((given : List StatAnswer) × (answers ≡ looks scope.roots given))

-- the roots were looked at first, nothing was asked but what was due, no folder twice, and all went well up
-- to the last call
pub record StopsAtLast (answers : List Heard) (scope : Scope) (Stops : Heard → Type 0) : Type 0 where
  pub first : LooksAtRoots answers scope
  pub asked : AsksDue answers scope
  pub earlier : List Heard
  pub last : Heard
  pub split : answers ≡ earlier ++ last ∷ []
  pub room : IsWithinLimits earlier scope
  pub stops : Stops last

-- the last answer made more files than a listing has
pub record AreFilesTooMany (answers : List Heard) (scope : Scope) : Type 0 where
  pub last : StopsAtLast answers scope (λ last. Unit {0})
  pub names : List NameFacts
  pub listing : IsWalkListing answers scope names
  pub many : LISTING_LIMIT < length names

-- the last answer made more entries than a walk reads
pub record IsTooManyEntries (answers : List Heard) (scope : Scope) : Type 0 where
  pub last : StopsAtLast answers scope (λ last. Unit {0})
  pub many : ENTRY_LIMIT < entries_read answers

-- the last answer said that nothing is at this root; the roots before it are there, and no limit was passed
pub record IsRootGone (answers : List Heard) (scope : Scope) (path : List ℕ) : Type 0 where
  pub before : List (List ℕ)
  pub after : List (List ℕ)
  pub given : List StatAnswer
  pub split : scope.roots ≡ before ++ path ∷ after
  pub each : length given ≡ length before
  pub there : list_all is_found given ≡ true
  pub room : IsWithinLimits (looks before given) scope
  pub heard : answers ≡ looks before given ++ stat path Gone ∷ []
  pub asked : AsksDue answers scope

-- memory was refused with no answer to see to: the roots were looked at first, nothing was asked but what was
-- due, no folder twice, and no limit was passed
pub record StopsBetween (answers : List Heard) (scope : Scope) : Type 0 where
  pub first : LooksAtRoots answers scope
  pub asked : AsksDue answers scope
  pub room : IsWithinLimits answers scope

-- the answers by which a walk ends with a fault; want of memory may end it at any, or between two calls
abbrev pub IsCause : List Heard → Scope → WalkFault → Type 0
IsCause answers scope Failed = StopsAtLast answers scope (λ last. call_failed last ≡ true)
IsCause answers scope TooMany = AreFilesTooMany answers scope
IsCause answers scope TooManyEntries = IsTooManyEntries answers scope
IsCause answers scope (RootGone path) = IsRootGone answers scope path
IsCause answers scope OutOfMemory = StopsBetween answers scope ⊎ StopsAtLast answers scope (λ last. Unit {0})

-- some more answers were heard, which the list that the tree tells grew by; they are those of the files that
-- are there, where the tree is told and still; and by them, behind those that were heard before, a call
-- ended so
pub record GoesByAnswers {V : Type 0} (told : Bool) (before after : ShownTree) (answers : List Heard)
    (Good : List Heard → V → Type 0) (Bad : List Heard → WalkFault → Type 0)
    (result : Result V WalkFault) : Type 0 where
  pub more : List Heard
  pub heard : after.heard ≡ with_answers before.heard more
  pub tells : IsTrue told → before.Still → All (IsAnswerTold before.present) more
  pub ends : MatchResult result (Good (answers ++ more)) (Bad (answers ++ more))

-- the walk ended by the answers that it heard
abbrev pub EndsWalk : Bool → ShownTree → ShownTree → Scope → Result Walk WalkFault → Type 0
EndsWalk told before after scope result =
    GoesByAnswers told before after [] (λ answers walk. IsWholeWalk answers scope walk)
    (λ answers fault. IsCause answers scope fault) result

-- a look at a path that is a root or lies under one, or the reading of a folder there; so no load and no opening
abbrev pub IsAskedUnder : Scope → Heard → Type 0
IsAskedUnder scope (load path limit answer) = ⊥
IsAskedUnder scope (stat path answer) = is_under_root scope path ≡ true
IsAskedUnder scope (read_dir path answer) = is_under_root scope path ≡ true
IsAskedUnder scope (open_file path limit answer) = ⊥
IsAskedUnder scope (read_at name at answer) = ⊥

-- the walk ended by the answers that it heard; whatever its end, nothing was loaded, and nothing was asked but
-- what is under the roots
pub record WalksTree (told : Bool) (before after : ShownTree) (scope : Scope)
    (result : Result Walk WalkFault) : Type 0 where
  pub goes : EndsWalk told before after scope result
  pub under : All (IsAskedUnder scope) goes.more
