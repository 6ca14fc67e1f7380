-- The numbers that are counted, by name, and where each stands in a row (this project's order).
use Rattle.std.specs.Prelude.{ℕ, ◌+◌, ◌*◌, ◌<◌, ◌==◌, List, [], ◌∷◌, length, slice_index, slice_set, replicate, if◌then◌else◌}
use Rattle.dbgd_metrics.specs.declared.number.RouteName.{RouteName}
use Rattle.dbgd_metrics.specs.declared.number.RouteName.TheVariants.{Debuginfo, Executable, Source, Section, Metrics, Other}
use Rattle.dbgd_metrics.specs.declared.number.Number.{Number}
use Rattle.dbgd_metrics.specs.declared.number.Number.TheVariants.{Requests, Bytes, Added, Replaced, Dropped, Passes}

-- the routes, in the order of the page
abbrev pub routes : List RouteName
routes = Debuginfo ∷ Executable ∷ Source ∷ Section ∷ Metrics ∷ Other ∷ []

-- the statuses of replies, in ascending order
abbrev pub statuses : List ℕ
statuses = 200 ∷ 400 ∷ 404 ∷ 405 ∷ 431 ∷ 502 ∷ 503 ∷ 507 ∷ []

-- the first place of a number in a list, or the list's length
abbrev pub place_in : List ℕ → ℕ → ℕ
place_in [] n = 0
place_in (x ∷ xs) n = if n == x then 0 else 1 + place_in xs n

-- a status of a reply
abbrev pub IsCountedStatus : ℕ → Type 0
IsCountedStatus status = place_in statuses status < length statuses

-- a route's place on the page
abbrev pub route_place : RouteName → ℕ
route_place Debuginfo = 0
route_place Executable = 1
route_place Source = 2
route_place Section = 3
route_place Metrics = 4
route_place Other = 5

-- a number's place in a row: first the requests by route and status, then the five others
abbrev pub number_place : Number → ℕ
number_place (Requests route status) = 8 * route_place route + place_in statuses status
number_place Bytes = 48
number_place Added = 49
number_place Replaced = 50
number_place Dropped = 51
number_place Passes = 52

-- how many numbers there are
abbrev pub count_of_numbers : ℕ
count_of_numbers = 53

-- the most rows of a table
abbrev pub most_rows : ℕ
most_rows = 65

-- one of the numbers, by its name
abbrev pub number_of_row : List ℕ → Number → ℕ
number_of_row numbers number = slice_index numbers (number_place number)

-- the numbers after one of them grew
abbrev pub grown : List ℕ → Number → ℕ → List ℕ
grown numbers number k = slice_set numbers (number_place number) (number_of_row numbers number + k)

-- all numbers before anything was counted
abbrev pub zeros : List ℕ
zeros = replicate count_of_numbers 0
