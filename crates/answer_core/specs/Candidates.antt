-- The files that may answer a route (this project's rule), by the rows of an index and the folders of sources.
use Rattle.std.specs.Prelude.{ℕ, ◌&&◌, Bool, if◌then◌else◌, List, [], ◌∷◌, ◌++◌, map, filter, Some, None}
use Rattle.std.specs.List.{list_any}
use Rattle.row_types.specs.Row.{RowFacts}
use Rattle.row_types.specs.Under.{is_within}
use Rattle.row_types.specs.declared.identity.Kind.{Kind}
use Rattle.row_types.specs.declared.identity.Kind.TheVariants as kind
use Rattle.index_rows.specs.Classes.{has_class, lists_source}
use Rattle.webapi_routes.specs.declared.route.Route.{Route}
use Rattle.webapi_routes.specs.declared.route.Route.TheVariants.{Debuginfo, Executable, Source, Section, Metrics}
use Rattle.answer_core.specs.declared.candidate.Candidate.{Candidate}

-- the file of a row, as one of this class
abbrev pub as_class : Kind → RowFacts → Candidate
as_class class row = record { class = Some class; path = row.name.path }

-- the files of the rows of an id and a class, in the order of the rows, which is that of their paths
abbrev pub of_class : List RowFacts → List ℕ → Kind → List Candidate
of_class rows id class = map (as_class class) (filter (λ row. has_class id class row.reading) rows)

-- the source at a path
abbrev pub as_source : List ℕ → Candidate
as_source path = record { class = None; path = path }

-- whether a path is that of one of the folders, or lies under one
abbrev pub is_in_one : List (List ℕ) → List ℕ → Bool
is_in_one folders path = list_any (λ folder. is_within folder path) folders

-- whether some row of the id lists the source
abbrev pub is_source_listed : List RowFacts → List ℕ → List ℕ → Bool
is_source_listed rows id path = list_any (λ row. lists_source id path row.reading) rows

-- the source at a path, where a row of the id lists it and it lies under one of the folders
abbrev pub source_in : List RowFacts → List (List ℕ) → List ℕ → List ℕ → List Candidate
source_in rows folders id path =
    if is_source_listed rows id path && is_in_one folders path then as_source path ∷ [] else []

-- the files that may answer a route, in the order in which they are tried: for a section those with debug information
-- come before those with code; the counters have none
abbrev pub candidates : List RowFacts → List (List ℕ) → Route → List Candidate
candidates rows folders (Debuginfo id) = of_class rows id kind.Debuginfo
candidates rows folders (Executable id) = of_class rows id kind.Executable
candidates rows folders (Section id name) = of_class rows id kind.Debuginfo ++ of_class rows id kind.Executable
candidates rows folders (Source id path) = source_in rows folders id path
candidates rows folders Metrics = []
