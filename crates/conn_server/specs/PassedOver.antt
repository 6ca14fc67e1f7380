-- Completeness (this project's rule): what a reply may not say of a hand that tells what it has and is still.
use Rattle.std.specs.Prelude.{◌≡◌, ◌⊎◌, true, IsTrue}
use Rattle.std.specs.List.{list_any}
use Rattle.tree_trait.specs.Heard.{call_failed}
use Rattle.answer_core.specs.Complete.{NoneIsThere}
use Rattle.answer_core.specs.Local.{Sight}
use Rattle.conn_server.specs.declared.reason.Reason.{Reason}
use Rattle.conn_server.specs.declared.reason.Reason.TheVariants as reason
use Rattle.conn_server.specs.declared.report.Asked as declared
use Rattle.conn_server.specs.declared.report.Asked.TheVariants as asked

-- that nothing was found here is said only where no candidate of the route is there and would pass, and, in a told world, where
-- no row stands by which something has to be found; what a link's answer gave is sent only there, or where a load failed
abbrev pub PassesOver : Sight → declared.Asked → Reason → Type 0
PassesOver sight (asked.Route route) reason.NotFound = NoneIsThere sight route
PassesOver sight (asked.Route route) reason.HopLimit = NoneIsThere sight route
PassesOver sight (asked.Route route) reason.UpstreamFault = NoneIsThere sight route
PassesOver sight (asked.Route route) reason.Upstream = (list_any call_failed sight.answers ≡ true) ⊎ NoneIsThere sight route
PassesOver _ _ _ = Unit {0}

-- the reply passes over no candidate of a hand that tells what it has and is still
abbrev pub FindsAll : Sight → declared.Asked → Reason → Type 0
FindsAll sight asked why = IsTrue sight.hand.told → sight.hand.start.Still → PassesOver sight asked why
