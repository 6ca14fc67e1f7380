use Rattle.std.proofs.Common.{◌≡◌, ◌++◌, take}
use Rattle.std.specs.Prelude.{flat_map}
use Rattle.std.specs.String.{string_bytes}
use Rattle.dbgd_metrics.specs.Numbers.{statuses}
use Rattle.dbgd_metrics.specs.Page.{route_lines}
use Rattle.dbgd_metrics.proofs.page.push_routes.Given as goal

abbrev pub invariant-loop-route : goal.invariant-loop-route
invariant-loop-route l = string_bytes l.text ≡ string_bytes l.fn.text ++ flat_map (route_lines l.totals statuses) (take l.route-index l.routes)
