-- What a target says (this project's rule): a route, or the first of its faults.
use Rattle.std.specs.Prelude.{◌≡◌, ◌≢◌, ℕ, ◌<◌, List, length, Result, Ok, Err}
use Rattle.hex.specs.Hex.{decode_of}
use Rattle.percent_encoding.specs.Percent.{percent_decode}
use Rattle.row_types.specs.BuildId.{IsIdText}
use Rattle.row_types.specs.declared.limits.TheConstants.{PATH_LIMIT}
use Rattle.webapi_routes.specs.Routes.{IsShort, route_of}
use Rattle.webapi_routes.specs.Path.{SpellsText, before_query}
use Rattle.webapi_routes.specs.Written.{IsWritten, Wanted, metrics_path, source}
use Rattle.webapi_routes.specs.declared.fault.RouteFault.{RouteFault}
use Rattle.webapi_routes.specs.declared.fault.RouteFault.TheVariants.{BadEscape, BadId, BadPath, NoRoute, OutOfMemory}
use Rattle.webapi_routes.specs.declared.route.Route.{Route}
use Rattle.webapi_routes.specs.declared.route.Route.TheVariants.{Metrics}

-- a text is that of this route's path, of an id: the id's text that stands for the id's bytes, and what the route asks of it
pub record IsTextOf (text : List ℕ) (route : Route) : Type 0 where
  pub hex : List ℕ
  pub wanted : Wanted
  pub id : List ℕ
  pub written : IsWritten text hex wanted
  pub digits : IsIdText hex
  pub bytes : decode_of hex ≡ Ok id
  pub short : IsShort wanted
  pub value : route ≡ route_of id wanted

-- the text isn't written as the path of an id
abbrev pub IsNoIdText : List ℕ → Type 0
IsNoIdText text = (hex : List ℕ) (wanted : Wanted) → ¬ (IsWritten text hex wanted)

-- the text is written as the path of an id, but what stands for the id is none
pub record HasBadId (text : List ℕ) : Type 0 where
  pub hex : List ℕ
  pub wanted : Wanted
  pub written : IsWritten text hex wanted
  pub none : ¬ (IsIdText hex)

-- the text is written as a source's path, with an id, but that path is too long
pub record HasBadPath (text : List ℕ) : Type 0 where
  pub hex : List ℕ
  pub path : List ℕ
  pub written : IsWritten text hex (source path)
  pub digits : IsIdText hex
  pub long : PATH_LIMIT < length path

-- what the text of a path says of an id
abbrev pub IdTextSays : List ℕ → Result Route RouteFault → Type 0
IdTextSays text (Ok route) = IsTextOf text route
IdTextSays text (Err NoRoute) = IsNoIdText text
IdTextSays text (Err BadId) = HasBadId text
IdTextSays text (Err BadPath) = HasBadPath text
IdTextSays text _ = ⊥

-- what the text of a path says: that of the counters asks for them, and every other one says what it says of an id
abbrev pub TextSays : List ℕ → Result Route RouteFault → Type 0
TextSays text (Ok Metrics) = text ≡ metrics_path
TextSays text answer = (text ≢ metrics_path) × IdTextSays text answer

-- what a path says: that it spells no text, or what its text says
abbrev pub PathSays : List ℕ → Result Route RouteFault → Type 0
PathSays path (Err BadEscape) = ¬ (SpellsText path)
PathSays path answer = SpellsText path × TextSays (percent_decode path) answer

-- what a target says
abbrev pub TargetSays : List ℕ → Result Route RouteFault → Type 0
TargetSays target answer = PathSays (before_query target) answer

-- the fact holds, or memory was refused
abbrev pub UnlessMemory : Result Route RouteFault → Type 0 → Type 0
UnlessMemory (Err OutOfMemory) fact = Unit {0}
UnlessMemory _ fact = fact

-- the answer is what the target says, or memory was refused
abbrev pub IsSaidBy : List ℕ → Result Route RouteFault → Type 0
IsSaidBy target answer = UnlessMemory answer (TargetSays target answer)
