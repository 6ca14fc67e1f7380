-- What is seen of the parts that a text is cut into, and what is made of them (this crate's bookkeeping, which no public clause cites).
use Rattle.std.specs.Prelude.{◌≡◌, ℕ, ◌<◌, List, length, Result, Ok, Err}
use Rattle.row_types.specs.declared.limits.TheConstants.{PATH_LIMIT}
use Rattle.webapi_routes.specs.Routes.{IsShort, route_of}
use Rattle.webapi_routes.specs.Written.{Wanted, debuginfo, executable, source, section}
use Rattle.webapi_routes.specs.declared.fault.RouteFault.{RouteFault}
use Rattle.webapi_routes.specs.declared.fault.RouteFault.TheVariants.{BadPath, OutOfMemory}
use Rattle.webapi_routes.specs.declared.route.Route.{Route}
use Rattle.webapi_routes.specs.declared.written.Written as part
use Rattle.webapi_routes.specs.declared.written.Written.TheVariants as written

-- what is asked of an id
abbrev pub seen : part.Written → Wanted
seen written.Debuginfo = debuginfo
seen written.Executable = executable
seen (written.Source path) = source path.now
seen (written.Section name) = section name.now

-- it asks for a source at a path that is too long
abbrev pub IsTooLong : Wanted → Type 0
IsTooLong (source path) = PATH_LIMIT < length path
IsTooLong _ = ⊥

-- what is made of an id and what is asked of it: the route, unless a path is too long or memory is refused
abbrev pub Makes : List ℕ → Wanted → Result Route RouteFault → Type 0
Makes id wanted (Ok route) = IsShort wanted × (route ≡ route_of id wanted)
Makes id wanted (Err BadPath) = IsTooLong wanted
Makes id wanted (Err OutOfMemory) = Unit {0}
Makes id wanted _ = ⊥
