-- How a route is printed (RFC 3986, sections 2.1 and 2.3; the slashes stand for themselves, as section 3.3 has them).
use Rattle.std.specs.Prelude.{◌≡◌, ℕ, ◌<◌, ◌==◌, ◌||◌, Bool, false, if◌then◌else◌, List, [], ◌∷◌, ◌++◌, codes, length}
use Rattle.std.specs.Char.{is_ascii_alphanumeric}
use Rattle.std.specs.List.{flat_map, list_any}
use Rattle.std.specs.Str.{IsUtf8}
use Rattle.hex.specs.Hex.{IsBytes, encode_lower}
use Rattle.percent_encoding.specs.Percent.{percent_encode_byte}
use Rattle.row_types.specs.BuildId.{IsIdLength}
use Rattle.row_types.specs.Canon.{IsCanonPath}
use Rattle.row_types.specs.declared.limits.TheConstants.{SEPARATOR}
use Rattle.webapi_routes.specs.Path.{holds_zero}
use Rattle.webapi_routes.specs.Written.{debuginfo, executable, metrics_path, section, source, wanted_text}
use Rattle.webapi_routes.specs.declared.route.Route.{Route}
use Rattle.webapi_routes.specs.declared.route.Route.TheVariants.{Debuginfo, Executable, Metrics, Section, Source}

-- whether a byte stands for itself: a letter, a digit, `-`, `.`, `_`, `~` or `/`
abbrev pub is_plain_byte : ℕ → Bool
is_plain_byte b = is_ascii_alphanumeric b || list_any (λ k. b == k) (codes "-._~/")

-- the bytes, with `%` and two upper-case hexadecimal digits for each that doesn't stand for itself
unfoldable pub escaped_target : List ℕ → List ℕ
escaped_target bytes = flat_map (λ b. if is_plain_byte b then b ∷ [] else percent_encode_byte b) bytes

-- the text of the path of an id, in lower case, and of what stands behind it
abbrev pub id_path : List ℕ → List ℕ → List ℕ
id_path id behind = codes "/buildid/" ++ (encode_lower id ++ SEPARATOR ∷ behind)

-- the text of a route's path
unfoldable pub route_text : Route → List ℕ
route_text (Debuginfo id) = id_path id (wanted_text debuginfo)
route_text (Executable id) = id_path id (wanted_text executable)
route_text (Source id path) = id_path id (wanted_text (source path))
route_text (Section id name) = id_path id (wanted_text (section name))
route_text Metrics = metrics_path

-- the target of a route
abbrev pub printed : Route → List ℕ
printed route = escaped_target (route_text route)

-- a target can ask for the route: a source's path holds no zero, and a section has a name that is UTF-8 without a zero
abbrev pub CanBeAsked : Route → Type 0
CanBeAsked (Source id path) = holds_zero path ≡ false
CanBeAsked (Section id name) = IsUtf8 name × (0 < length name) × (holds_zero name ≡ false)
CanBeAsked _ = Unit {0}

-- bytes that are an id, as its type says
pub record IsIdBytes (id : List ℕ) : Type 0 where
  pub sized : IsIdLength (length id)
  pub small : IsBytes id

-- a text that is a source's path, as its type says
pub record IsSourcePath (path : List ℕ) : Type 0 where
  pub canon : IsCanonPath path
  pub utf8 : IsUtf8 path

-- a route's id and its path are such, as their types say
abbrev pub AreParts : Route → Type 0
AreParts (Debuginfo id) = IsIdBytes id
AreParts (Executable id) = IsIdBytes id
AreParts (Source id path) = IsIdBytes id × IsSourcePath path
AreParts (Section id name) = IsIdBytes id
AreParts Metrics = Unit {0}

-- the bytes are the text of the route's path, and its parts are as their types say
pub record IsRouteText (route : Route) (bytes : List ℕ) : Type 0 where
  pub text : bytes ≡ route_text route
  pub parts : AreParts route
