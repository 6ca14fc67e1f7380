-- The routes of a build-id, as the parts that their paths are written from (this project's rule).
use Rattle.std.specs.Prelude.{ℕ, ◌≤◌, List, length, Option, Some, None}
use Rattle.row_types.specs.Canon.{canon}
use Rattle.row_types.specs.declared.limits.TheConstants.{PATH_LIMIT}
use Rattle.webapi_routes.specs.Written.{Wanted, debuginfo, executable, source, section}
use Rattle.webapi_routes.specs.declared.route.Route.{Route}
use Rattle.webapi_routes.specs.declared.route.Route.TheVariants.{Debuginfo, Executable, Source, Section, Metrics}

-- the route of an id, and of what is asked of it: a source is the canonical path of the one that is written
abbrev pub route_of : List ℕ → Wanted → Route
route_of id debuginfo = Debuginfo id
route_of id executable = Executable id
route_of id (source path) = Source id (canon path)
route_of id (section name) = Section id name

-- a source's path, as it is written, is no longer than a path may be
abbrev pub IsShort : Wanted → Type 0
IsShort (source path) = length path ≤ PATH_LIMIT
IsShort _ = Unit {0}

-- the id that a route is of, if it is of one
abbrev pub build_id_of : Route → Option (List ℕ)
build_id_of (Debuginfo id) = Some id
build_id_of (Executable id) = Some id
build_id_of (Source id path) = Some id
build_id_of (Section id name) = Some id
build_id_of Metrics = None
