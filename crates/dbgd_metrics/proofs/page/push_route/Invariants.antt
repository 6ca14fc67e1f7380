use Rattle.std.proofs.Common.{◌≡◌, ◌++◌, take}
use Rattle.std.specs.Prelude.{flat_map}
use Rattle.std.specs.String.{string_bytes}
use Rattle.dbgd_metrics.specs.Page.{request_line}
use Rattle.dbgd_metrics.proofs.page.push_route.Given as goal

abbrev pub invariant-loop-status : goal.invariant-loop-status
invariant-loop-status l = string_bytes l.text ≡ string_bytes l.fn.text ++ flat_map (request_line l.totals l.route) (take l.status-index l.codes)
