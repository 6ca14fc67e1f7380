-- What a request asks (this project's rule over RFC 9110, sections 9.3.1 and 9.3.2): the head, the method, the body, the pages and
-- the route are looked at in this order, and the first that isn't served decides; of the pages, the first that is asked.
use Rattle.std.specs.Prelude.{◌≡◌, ℕ, ◌||◌, Bool, true, false, not, List, codes, Ok}
use Rattle.std.specs.Str.{bytes_eq}
use Rattle.httparse.specs.Grammar.{RequestHead}
use Rattle.http_wire.specs.Fields.{closes, has_body, hops}
use Rattle.http_wire.specs.declared.head.Head.{Head}
use Rattle.http_wire.specs.declared.head.HeadFault.{HeadFault}
use Rattle.webapi_routes.specs.Targets.{IsSaidBy}
use Rattle.webapi_routes.specs.declared.route.Route.{Route}
use Rattle.conn_server.specs.Pages.{IsNoPage}

-- what a reply to a head depends on: its method and target, whether it asks to close, whether a body follows, and how many
-- forwarders it has passed
pub record HeadFacts : Type 0 where
  pub method : List ℕ
  pub target : List ℕ
  pub close : Bool
  pub body : Bool
  pub hops : ℕ

-- what a head of the grammar says
abbrev pub head_facts : RequestHead → HeadFacts
head_facts h = record { method = h.method; target = h.target; close = closes h; body = has_body h; hops = hops h }

-- what is told of a head
abbrev pub told_facts : Head → HeadFacts
told_facts head = record {
  method = head.method.now;
  target = head.target.now;
  close = head.close;
  body = head.has_body;
  hops = head.hops;
}

-- a request: a head, or bytes that are none
pub data Request : Type 0 where
  readable : (head : HeadFacts) → Request
  refused : (fault : HeadFault) → Request

-- whether the reply to a method has no body
abbrev pub is_head : List ℕ → Bool
is_head method = bytes_eq method (codes "HEAD")

-- whether a method is served
abbrev pub is_served : List ℕ → Bool
is_served method = bytes_eq method (codes "GET") || is_head method

-- the method is served, and no body follows
pub record IsTaken (head : HeadFacts) : Type 0 where
  pub method : is_served head.method ≡ true
  pub no_body : head.body ≡ false

-- the route is looked at: the head is taken, and its target is one of no page
pub record IsLookedUp (head : HeadFacts) : Type 0 where
  pub taken : IsTaken head
  pub no_page : IsNoPage head.target

-- the head asks for the route
pub record AsksForRoute (head : HeadFacts) (route : Route) : Type 0 where
  pub looked : IsLookedUp head
  pub says : IsSaidBy head.target (Ok route)

-- whether the reply has its body
abbrev pub sends_body : Request → Bool
sends_body (readable head) = not (is_head head.method)
sends_body (refused fault) = true

-- whether no other reply follows: the request asks to close, a body follows it, it is none, or it is the last that a
-- connection has
abbrev pub closes_after : Request → Bool → Bool
closes_after (readable head) last = head.close || head.body || last
closes_after (refused fault) last = true
