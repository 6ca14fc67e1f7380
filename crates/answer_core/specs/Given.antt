-- What is given of a file that passes as the answer to a route (this project's rule).
use Rattle.std.specs.Prelude.{◌≡◌, ℕ, Bool, true, false, List, Option, Some, None}
use Rattle.file_formats.specs.Parts.{IsSomeSection}
use Rattle.file_formats.specs.Windows.{IsSomeWindow, Range}
use Rattle.row_types.specs.Name.{NameFacts}
use Rattle.row_types.specs.declared.identity.Kind.{Kind}
use Rattle.row_types.specs.declared.identity.Kind.TheVariants as kind
use Rattle.tree_trait.specs.Found.{Versions}
use Rattle.tree_trait.specs.Heard.{Heard}
use Rattle.tree_trait.specs.Opened.{HoldsPicture}
use Rattle.file_parts.specs.Wholes.{IsReadWhole}
use Rattle.webapi_routes.specs.declared.route.Route.{Route}
use Rattle.webapi_routes.specs.declared.route.Route.TheVariants.{Debuginfo, Executable, Source, Section}
use Rattle.answer_check.specs.Checked.{CheckedFacts}
use Rattle.answer_check.specs.CheckedSection.{CheckedSectionFacts, HasSectionSeen}
use Rattle.answer_core.specs.declared.given.Given.{Given}
use Rattle.answer_core.specs.declared.given.Given.TheVariants as given

-- what is given: the checked file, with the path and the stamp of the open file; the section in a checked file; a source's bytes
pub data GivenFacts : Type 0 where
  file_given : (from : CheckedFacts) (name : NameFacts) → GivenFacts
  section_given : (from : CheckedSectionFacts) → GivenFacts
  source_given : (bytes : List ℕ) → GivenFacts

-- what is given, by the path and the stamp with which files were opened
abbrev pub given_facts : {F : Type 0} → (F → NameFacts) → Given F → GivenFacts
given_facts opened (given.File from file) = file_given from (opened file)
given_facts opened (given.Section from) = section_given from
given_facts opened (given.Source bytes) = source_given bytes.items

-- whether a route asks for a source, which is loaded whole; of every other file what its answer rests on is read
abbrev pub asks_source : Route → Bool
asks_source (Source id path) = true
asks_source _ = false

-- the name of the section that a route asks for
abbrev pub section_asked : Route → Option (List ℕ)
section_asked (Section id name) = Some name
section_asked _ = None

-- the ranges of a file on which its identity rests, and its section of a name, if one is asked
abbrev pub needs_by : Option (List ℕ) → List ℕ → Range → Type 0
needs_by None = IsSomeWindow
needs_by (Some name) = IsSomeSection name

-- the ranges of a file on which the answer to a route rests: its windows, and for a section that section
abbrev pub needs_for : Route → List ℕ → Range → Type 0
needs_for route = needs_by (section_asked route)

-- the file was checked for this class and id by a picture that has all such ranges of it: the files that agree with the picture
-- are those that have what was read, and a version of the path and the stamp is one of them
pub record IsCheckedRead (version : Versions) (Of : List ℕ → Range → Type 0) (class : Kind) (id : List ℕ) (name : NameFacts)
    (reads : List Heard) (from : CheckedFacts) : Type 0 where
  pub of_class : from.kind ≡ class
  pub of_id : from.id ≡ id
  pub whole : IsReadWhole Of name.stamp.size reads from.picture
  pub holds : HoldsPicture version name.path name.stamp from.picture

-- the section has this name, and is the same in each file that has what was read
pub record IsSectionRead (version : Versions) (class : Kind) (id section : List ℕ) (name : NameFacts) (reads : List Heard)
    (from : CheckedSectionFacts) : Type 0 where
  pub named : from.name ≡ section
  pub file : IsCheckedRead version (IsSomeSection section) class id name reads from.file
  pub seen : HasSectionSeen from

-- what is given of the open file of this name, of which this was read: the file, checked for the class and the id of the route, or
-- the section of the route's name, in a file that was checked for the id and the candidate's class
abbrev pub GivesRead : Versions → Route → Option Kind → NameFacts → List Heard → GivenFacts → Type 0
GivesRead version (Debuginfo id) class name reads (file_given from opened) =
    (opened ≡ name) × IsCheckedRead version IsSomeWindow kind.Debuginfo id name reads from
GivesRead version (Executable id) class name reads (file_given from opened) =
    (opened ≡ name) × IsCheckedRead version IsSomeWindow kind.Executable id name reads from
GivesRead version (Section id section) (Some class) name reads (section_given from) =
    IsSectionRead version class id section name reads from
GivesRead _ _ _ _ _ _ = ⊥
