-- Completeness (this project's rule): which candidates a hand that tells what it has, and is still, has to find.
use Rattle.std.specs.Prelude.{◌≡◌, ℕ, ◌≤◌, ◌⊎◌, true, List, [], ◌∷◌, length, Contains, Some}
use Rattle.index_rows.specs.Classes.{has_class, lists_source}
use Rattle.row_types.specs.Name.{stamp_at}
use Rattle.row_types.specs.Reading.{IsTrueRow}
use Rattle.row_types.specs.Row.{RowFacts}
use Rattle.row_types.specs.Stamp.{StampFacts}
use Rattle.row_types.specs.declared.identity.Kind.{Kind}
use Rattle.row_types.specs.declared.identity.Kind.TheVariants as kind
use Rattle.row_types.specs.declared.limits.TheConstants.{FILE_LIMIT, READ_LIMIT}
use Rattle.tree_trait.specs.Found.{Versions}
use Rattle.webapi_routes.specs.declared.route.Route.{Route}
use Rattle.webapi_routes.specs.declared.route.Route.TheVariants.{Debuginfo, Executable, Source, Section, Metrics}
use Rattle.answer_core.specs.Candidates.{is_in_one}
use Rattle.answer_core.specs.Loads.{Hand}
use Rattle.answer_core.specs.Local.{AreCandidatesAt, Sight}
use Rattle.answer_check.specs.Passing.{Passes}
use Rattle.answer_check.specs.Section.{HasSectionOf}
use Rattle.answer_core.specs.declared.candidate.Candidate.{Candidate}

-- the largest size of a file by which the route is answered: a source is read into memory whole
abbrev pub size_limit : Route → ℕ
size_limit (Source id path) = READ_LIMIT
size_limit _ = FILE_LIMIT

-- the candidate is there at this stamp, within the limit, and each version of its path and stamp passes, whole as the stamp says
pub record WouldPass (hand : Hand) (route : Route) (one : Candidate) : Type 0 where
  pub stamp : StampFacts
  pub there : stamp_at hand.start.present one.path ≡ Some stamp
  pub small : stamp.size ≤ size_limit route
  pub passes : (b : List ℕ) → hand.version one.path stamp b → length b ≡ stamp.size → Passes route one.class b

-- some candidate is there and would pass
abbrev pub SomeWouldPass : Hand → Route → List Candidate → Type 0
SomeWouldPass hand route [] = ⊥
SomeWouldPass hand route (one ∷ all) = WouldPass hand route one ⊎ SomeWouldPass hand route all

-- a told world: a true row says what the file of its name is, and a path and a stamp name one content
pub record IsToldWorld (true_row : RowFacts → Type 0) (version : Versions) : Type 0 where
  pub reads : (row : RowFacts) → true_row row → IsTrueRow version row
  pub one : (path : List ℕ) (stamp : StampFacts) (a b : List ℕ) → version path stamp a → version path stamp b → a ≡ b

-- the row is of the id and the class, and its file is there, at the row's stamp
pub record IsThere (hand : Hand) (class : Kind) (id : List ℕ) (row : RowFacts) : Type 0 where
  pub is : has_class id class row.reading ≡ true
  pub at : stamp_at hand.start.present row.name.path ≡ Some row.name.stamp

-- the same of some class, and the file has the section of this name
pub record IsThereWith (hand : Hand) (id name : List ℕ) (row : RowFacts) : Type 0 where
  pub class : Kind
  pub there : IsThere hand class id row
  pub bytes : List ℕ
  pub known : hand.version row.name.path row.name.stamp bytes
  pub has : HasSectionOf bytes name

-- the row lists the source for the id, and the source lies in one of the folders and is there, within the limit
pub record IsSourceThere (hand : Hand) (folders : List (List ℕ)) (id path : List ℕ) (row : RowFacts) : Type 0 where
  pub lists : lists_source id path row.reading ≡ true
  pub inside : is_in_one folders path ≡ true
  pub stamp : StampFacts
  pub at : stamp_at hand.start.present path ≡ Some stamp
  pub small : stamp.size ≤ READ_LIMIT

-- by this row the route has to find something. It is said of rows, and not of requests, since in a told world a true row says what
-- its file is
abbrev pub HasToFind : Hand → List (List ℕ) → Route → RowFacts → Type 0
HasToFind hand folders (Debuginfo id) row = IsThere hand kind.Debuginfo id row
HasToFind hand folders (Executable id) row = IsThere hand kind.Executable id row
HasToFind hand folders (Section id name) row = IsThereWith hand id name row
HasToFind hand folders (Source id path) row = IsSourceThere hand folders id path row
HasToFind hand folders Metrics row = ⊥

-- the candidates of the route at the log that was seen, none of which is there and would pass; in a told world no row by
-- which something has to be found
pub record NoneIsThere (sight : Sight) (route : Route) : Type 0 where
  pub all : List Candidate
  pub stood : AreCandidatesAt sight.true_row sight.log sight.folders route all
  pub none : SomeWouldPass sight.hand route all → ⊥
  pub no_row : IsToldWorld sight.true_row sight.hand.version → (row : RowFacts) → Contains stood.rows row
      → HasToFind sight.hand sight.folders route row → ⊥
