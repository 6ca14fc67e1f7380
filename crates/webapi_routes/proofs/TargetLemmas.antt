-- A target says one thing.
use Rattle.std.proofs.Common.{◌≡◌, ℕ, ◌≤◌, List, [], length, Result, Ok, Err, refl, sym, ap, subst, ◌∙◌, arith}
use Rattle.std.specs.Result.{result_unwrap_or}
use Rattle.hex.specs.Hex.{decode_of}
use Rattle.hex.specs.declared.error.FromHexError.{FromHexError}
use Rattle.percent_encoding.specs.Percent.{percent_decode}
use Rattle.row_types.specs.BuildId.{IsIdText}
use Rattle.row_types.specs.declared.limits.TheConstants.{PATH_LIMIT}
use Rattle.webapi_routes.specs.Routes.{IsShort, route_of}
use Rattle.webapi_routes.specs.Targets.{HasBadId, HasBadPath, IdTextSays, IsTextOf, PathSays, TargetSays, TextSays, UnlessMemory}
use Rattle.webapi_routes.specs.Path.{SpellsText, before_query}
use Rattle.webapi_routes.specs.declared.fault.RouteFault.{RouteFault}
use Rattle.webapi_routes.specs.declared.fault.RouteFault.TheVariants.{BadEscape, BadId, BadPath, NoRoute, OutOfMemory}
use Rattle.webapi_routes.specs.Written.{Wanted, debuginfo, executable, metrics_path, section, source}
use Rattle.webapi_routes.specs.declared.route.Route.{Route}
use Rattle.webapi_routes.specs.declared.route.Route.TheVariants.{Debuginfo, Executable, Metrics, Section, Source}
use Rattle.webapi_routes.proofs.WrittenLemmas.{written_one}

-- two routes of a text are one
route_one : {text : List ℕ} {a b : Route} → IsTextOf text a → IsTextOf text b → a ≡ b
route_one h k =
    let parts = written_one h.written k.written in
    let same : Ok h.id ≡ Ok k.id = sym h.bytes ∙ ap decode_of parts.0 ∙ k.bytes in
    let id : h.id ≡ k.id = ap (λ (r : Result (List ℕ) FromHexError). result_unwrap_or r []) same in
    h.value ∙ ap (λ i. route_of i h.wanted) id ∙ ap (route_of k.id) parts.1 ∙ sym k.value

-- a route's text has an id
no_bad_id : {text : List ℕ} {route : Route} → IsTextOf text route → HasBadId text → ⊥
no_bad_id h k = k.none (subst IsIdText (written_one h.written k.written).0 h.digits)

-- a route's path isn't too long
no_bad_path : {text : List ℕ} {route : Route} → IsTextOf text route → HasBadPath text → ⊥
no_bad_path h k =
    let short : length k.path ≤ PATH_LIMIT = subst IsShort (written_one h.written k.written).1 h.short in
    omega (arith, short, k.long)

-- a path is too long behind an id alone
not_both : {text : List ℕ} → HasBadId text → HasBadPath text → ⊥
not_both h k = h.none (subst IsIdText (sym (written_one h.written k.written).0) k.digits)

id_text_one : (text : List ℕ) (a b : Result Route RouteFault) → IdTextSays text a → IdTextSays text b → a ≡ b
id_text_one text (Ok r) (Ok s) h k = ap Ok (route_one h k)
id_text_one text (Ok r) (Err BadEscape) h k = absurd k
id_text_one text (Ok r) (Err NoRoute) h k = absurd (k h.hex h.wanted h.written)
id_text_one text (Ok r) (Err BadId) h k = absurd (no_bad_id h k)
id_text_one text (Ok r) (Err BadPath) h k = absurd (no_bad_path h k)
id_text_one text (Ok r) (Err OutOfMemory) h k = absurd k
id_text_one text (Err BadEscape) b h k = absurd h
id_text_one text (Err OutOfMemory) b h k = absurd h
id_text_one text (Err NoRoute) (Ok s) h k = absurd (h k.hex k.wanted k.written)
id_text_one text (Err NoRoute) (Err BadEscape) h k = absurd k
id_text_one text (Err NoRoute) (Err NoRoute) h k = refl
id_text_one text (Err NoRoute) (Err BadId) h k = absurd (h k.hex k.wanted k.written)
id_text_one text (Err NoRoute) (Err BadPath) h k = absurd (h k.hex _ k.written)
id_text_one text (Err NoRoute) (Err OutOfMemory) h k = absurd k
id_text_one text (Err BadId) (Ok s) h k = absurd (no_bad_id k h)
id_text_one text (Err BadId) (Err BadEscape) h k = absurd k
id_text_one text (Err BadId) (Err NoRoute) h k = absurd (k h.hex h.wanted h.written)
id_text_one text (Err BadId) (Err BadId) h k = refl
id_text_one text (Err BadId) (Err BadPath) h k = absurd (not_both h k)
id_text_one text (Err BadId) (Err OutOfMemory) h k = absurd k
id_text_one text (Err BadPath) (Ok s) h k = absurd (no_bad_path k h)
id_text_one text (Err BadPath) (Err BadEscape) h k = absurd k
id_text_one text (Err BadPath) (Err NoRoute) h k = absurd (k h.hex _ h.written)
id_text_one text (Err BadPath) (Err BadId) h k = absurd (not_both k h)
id_text_one text (Err BadPath) (Err BadPath) h k = refl
id_text_one text (Err BadPath) (Err OutOfMemory) h k = absurd k

text_one : (text : List ℕ) (a b : Result Route RouteFault) → TextSays text a → TextSays text b → a ≡ b
text_one text (Ok Metrics) (Ok Metrics) h k = refl
text_one text (Ok Metrics) b h k = absurd (k.0 h)
text_one text a (Ok Metrics) h k = absurd (h.0 k)
text_one text a b h k = id_text_one text a b h.1 k.1

-- no path of an id is that of the counters
not_metrics : (wanted : Wanted) (id : List ℕ) → Metrics ≡ route_of id wanted → ⊥
not_metrics debuginfo id e = absurd (cc)
not_metrics executable id e = absurd (cc)
not_metrics (source path) id e = absurd (cc)
not_metrics (section name) id e = absurd (cc)

-- a text that isn't the path of the counters says what it says of an id
pub text_says : (text : List ℕ) (answer : Result Route RouteFault) → (text ≡ metrics_path → ⊥)
    → UnlessMemory answer (IdTextSays text answer) → UnlessMemory answer (TextSays text answer)
text_says text (Ok Metrics) other says = absurd (not_metrics says.wanted says.id says.value)
text_says text (Ok (Debuginfo id)) other says = (other, says)
text_says text (Ok (Executable id)) other says = (other, says)
text_says text (Ok (Source id path)) other says = (other, says)
text_says text (Ok (Section id name)) other says = (other, says)
text_says text (Err BadEscape) other says = (other, says)
text_says text (Err NoRoute) other says = (other, says)
text_says text (Err BadId) other says = (other, says)
text_says text (Err BadPath) other says = (other, says)
text_says text (Err OutOfMemory) other says = tt

path_one : (path : List ℕ) (a b : Result Route RouteFault) → PathSays path a → PathSays path b → a ≡ b
path_one path (Err BadEscape) (Err BadEscape) h k = refl
path_one path (Err BadEscape) b h k = absurd (h k.0)
path_one path a (Err BadEscape) h k = absurd (k h.0)
path_one path a b h k = text_one (percent_decode path) a b h.1 k.1

-- what a path says is what its text says
pub path_says : (path : List ℕ) (answer : Result Route RouteFault) → SpellsText path → UnlessMemory answer (TextSays (percent_decode path) answer)
    → UnlessMemory answer (PathSays path answer)
path_says path (Ok route) spells says = (spells, says)
path_says path (Err BadEscape) spells says = absurd says.1
path_says path (Err NoRoute) spells says = (spells, says)
path_says path (Err BadId) spells says = (spells, says)
path_says path (Err BadPath) spells says = (spells, says)
path_says path (Err OutOfMemory) spells says = tt

-- a target says one thing
pub says_one : (target : List ℕ) {a b : Result Route RouteFault} → TargetSays target a → TargetSays target b → a ≡ b
says_one target {a} {b} h k = path_one (before_query target) a b h k

-- what the target says is the answer, unless memory was refused
pub only_that : (target : List ℕ) (result answer : Result Route RouteFault) → UnlessMemory result (TargetSays target result) → TargetSays target answer
    → UnlessMemory result (result ≡ answer)
only_that target (Ok route) answer h k = says_one target h k
only_that target (Err BadEscape) answer h k = says_one target h k
only_that target (Err NoRoute) answer h k = says_one target h k
only_that target (Err BadId) answer h k = says_one target h k
only_that target (Err BadPath) answer h k = says_one target h k
only_that target (Err OutOfMemory) answer h k = tt
