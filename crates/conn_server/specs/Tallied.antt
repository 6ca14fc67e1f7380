-- What is counted of requests (this project's rule): each one that was answered, once its reply was written whole.
use Rattle.std.specs.Prelude.{◌≡◌, ℕ, true, false, List, [], ◌∷◌, IsSome}
use Rattle.dbgd_metrics.specs.Counts.{Counts, numbers_after}
use Rattle.dbgd_metrics.specs.Shares.{BookFacts, ShareFacts}
use Rattle.dbgd_metrics.specs.Totals.{OnlyNotes}
use Rattle.dbgd_metrics.specs.declared.count.Count.{Count}
use Rattle.dbgd_metrics.specs.declared.count.Count.TheVariants as count
use Rattle.dbgd_metrics.specs.declared.count.Counted.{Counted}
use Rattle.dbgd_metrics.specs.declared.number.RouteName.{RouteName}
use Rattle.dbgd_metrics.specs.declared.number.RouteName.TheVariants as name
use Rattle.webapi_routes.specs.declared.route.Route.{Route}
use Rattle.webapi_routes.specs.declared.route.Route.TheVariants as route
use Rattle.conn_server.specs.declared.report.Asked as declared
use Rattle.conn_server.specs.declared.report.Asked.TheVariants as asked
use Rattle.conn_server.specs.declared.report.Served.{Served}

-- a share of this counter table that has a row
abbrev pub HasRowIn : BookFacts → ShareFacts → Type 0
HasRowIn book share = (share.book ≡ book.id) × IsSome share.row

-- the name under which a route is counted
abbrev pub route_name : Route → RouteName
route_name (route.Debuginfo id) = name.Debuginfo
route_name (route.Executable id) = name.Executable
route_name (route.Source id path) = name.Source
route_name (route.Section id part) = name.Section
route_name route.Metrics = name.Metrics

-- the name under which a request is counted: that of its route, or `other` where it asks for none
abbrev pub counted_route : declared.Asked → RouteName
counted_route (asked.Route given) = route_name given
counted_route _ = name.Other

-- what is counted of a request: its route, its status, and the bytes of its body that were written
abbrev pub count_for : Served → Count
count_for served = count.Request (counted_route served.asked) served.status served.len

-- a request is counted: the share's numbers grow by it, or one of them has no room, and the share is marked
abbrev pub CountsServed : Served → ShareFacts → ShareFacts → Type 0
CountsServed served old new = (how : Counted) × Counts (count_for served) old new how

-- the share notes the loads of a page, if one is asked, and then the request is counted
pub record CountsRequest (served : Served) (old noted new : ShareFacts) : Type 0 where
  pub notes : OnlyNotes old noted
  pub counts : CountsServed served noted new

-- the numbers after these requests were counted
abbrev pub numbers_with : List Served → List ℕ → List ℕ
numbers_with [] numbers = numbers
numbers_with (served ∷ rest) numbers = numbers_with rest (numbers_after numbers (count_for served))

-- the counter law: the share has its table and its row; a mark stays; and where it isn't marked in the end, its numbers have
-- grown by one request for each of these, and by nothing else
pub record TalliesServed (served : List Served) (old new : ShareFacts) : Type 0 where
  pub book : new.book ≡ old.book
  pub row : new.row ≡ old.row
  pub mark : old.marked ≡ true → new.marked ≡ true
  pub numbers : new.marked ≡ false → new.numbers ≡ numbers_with served old.numbers
