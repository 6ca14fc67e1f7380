-- The text of the metrics page (this project's format, as Prometheus reads it): a name, its labels, a space and a number.
use Rattle.std.specs.Prelude.{ℕ, ◌==◌, List, [], ◌++◌, codes, decimal, if◌then◌else◌, flat_map}
use Rattle.dbgd_metrics.specs.declared.number.RouteName.{RouteName}
use Rattle.dbgd_metrics.specs.declared.number.RouteName.TheVariants.{Debuginfo, Executable, Source, Section, Metrics, Other}
use Rattle.dbgd_metrics.specs.declared.number.Number.TheVariants.{Requests, Bytes, Added, Replaced, Dropped, Passes}
use Rattle.dbgd_metrics.specs.Numbers.{number_of_row, routes, statuses}

-- one line: what is counted, a space, the number, a line feed
abbrev pub number_line : List ℕ → ℕ → List ℕ
number_line name number = name ++ codes " " ++ decimal number ++ codes "\n"

-- a route's label
abbrev pub route_label : RouteName → List ℕ
route_label Debuginfo = codes "debuginfo"
route_label Executable = codes "executable"
route_label Source = codes "source"
route_label Section = codes "section"
route_label Metrics = codes "metrics"
route_label Other = codes "other"

-- a label of a series
abbrev pub label : List ℕ → List ℕ → List ℕ
label name value = name ++ codes "=\"" ++ value ++ codes "\""

-- the two labels of a series of requests
abbrev pub labels : List ℕ → List ℕ → List ℕ
labels route status = codes "{" ++ label (codes "route") route ++ codes "," ++ label (codes "status") status ++ codes "}"

-- the name of the requests of a route with a status
abbrev pub requests_name : RouteName → ℕ → List ℕ
requests_name route status = codes "dbgd_requests_total" ++ labels (route_label route) (decimal status)

-- a line that is left out where its number is 0
abbrev pub line_unless_zero : List ℕ → ℕ → List ℕ
line_unless_zero name number = if number == 0 then [] else number_line name number

-- the line of a route and a status
abbrev pub request_line : List ℕ → RouteName → ℕ → List ℕ
request_line totals route status = line_unless_zero (requests_name route status) (number_of_row totals (Requests route status))

-- the lines of a route, by status
abbrev pub route_lines : List ℕ → List ℕ → RouteName → List ℕ
route_lines totals codes_of route = flat_map (request_line totals route) codes_of

-- the page: the lines of the requests by route and status, and the five others, zeros too
abbrev pub metrics_text : List ℕ → List ℕ
metrics_text totals =
    flat_map (route_lines totals statuses) routes
    ++ number_line (codes "dbgd_body_bytes_total") (number_of_row totals Bytes)
    ++ number_line (codes "dbgd_rows_added_total") (number_of_row totals Added)
    ++ number_line (codes "dbgd_rows_replaced_total") (number_of_row totals Replaced)
    ++ number_line (codes "dbgd_rows_dropped_total") (number_of_row totals Dropped)
    ++ number_line (codes "dbgd_passes_total") (number_of_row totals Passes)
