-- Serving a door (this project's rule): its connections one after the other, each served as the rule of connections says, by one
-- token, one hand and one share.
use Rattle.std.specs.Prelude.{◌≡◌, ◌≤◌, List, [], ◌∷◌, ◌++◌, map, Option, Some, None, count_by}
use Rattle.std.specs.List.{flat_map}
use Rattle.row_types.specs.Faults.{HasCause, summed}
use Rattle.tree_trait.specs.Heard.{Heard}
use Rattle.http_wire.specs.Door.{DoorCall, ShownDoor, arrived, handed_back}
use Rattle.http_wire.specs.Stream.{ShownStream}
use Rattle.http_wire.specs.Told.{Gains}
use Rattle.http_wire.specs.declared.door.DoorSaid.{DoorSaid}
use Rattle.http_wire.specs.declared.door.DoorSaid.TheVariants as said
use Rattle.answer_core.specs.Loads.{Hears}
use Rattle.federation.specs.Heard.{LinkHeard}
use Rattle.conn_server.specs.Connection.{AreExchanges, LogsGrow, Serves, links_heard}
use Rattle.conn_server.specs.Tallied.{TalliesServed}
use Rattle.conn_server.specs.Exchange.{Exchange, asked_for}
use Rattle.conn_server.specs.Links.{HeardFor, LinksFailed, LinksHear, all_parts, both_parts, hand_heard}
use Rattle.conn_server.specs.Replies.{says_read_fault, says_upstream_fault}
use Rattle.conn_server.specs.Stage.{ConnSetting, ConnStage, hand_at}
use Rattle.conn_server.specs.declared.door.DoorEnd.{DoorEnd}
use Rattle.conn_server.specs.declared.door.DoorEnd.TheVariants as end
use Rattle.conn_server.specs.declared.report.ConnReport.{ConnReport}

-- one connection of a door: its stream as it came and as it was handed back, what is told of it, its requests that were answered,
-- and what was asked for one more and answered. It is known by what its stream showed: neither its number nor the points of the
-- gate stand in a clause
pub record Visit : Type 0 where
  pub came : ShownStream
  pub ended : ShownStream
  pub report : ConnReport
  pub xs : List Exchange
  pub rest : HeardFor

-- the connection was served so, from this moment to that one
pub record IsVisit {T : Type 0} (setting : ConnSetting T) (a : ConnStage T) (one : Visit) (b : ConnStage T) : Type 0 where
  pub serves : Serves setting a one.came one.report b one.ended
  pub are : one.xs ≡ serves.2.xs
  pub left : one.rest ≡ serves.2.rest

-- these connections lead from the first moment to the last, each served from where the one before it led
pub data VisitsRow {T : Type 0} (setting : ConnSetting T) (a : ConnStage T) : List Visit → ConnStage T → Type 0 where
  nobody : VisitsRow setting a [] a
  another : (visits : List Visit) (b : ConnStage T) (one : Visit) (c : ConnStage T) → VisitsRow setting a visits b
      → IsVisit setting b one c → VisitsRow setting a (visits ++ one ∷ []) c

-- the requests that were answered, of all connections, in order
abbrev pub all_exchanges : List Visit → List Exchange
all_exchanges visits = flat_map (λ one. one.xs) visits

-- what the hand was asked for a connection and answered: a part for each of its requests, and the rest
abbrev pub visit_answers : Visit → List Heard
visit_answers one = flat_map asked_for one.xs ++ hand_heard one.rest

-- what each link was asked for a connection and answered
abbrev pub visit_parts : Visit → List (List LinkHeard)
visit_parts one = both_parts (links_heard one.xs) one.rest.links

-- what a door tells of a connection: it came, and then it was handed back
abbrev pub visit_calls : Visit → List DoorCall
visit_calls one = arrived one.came ∷ handed_back one.ended ∷ []

-- the exchanges of these connections are lawful by the objects as they stood at one moment
abbrev pub AreVisits : {T : Type 0} → ConnSetting T → ConnStage T → List Visit → Type 0
AreVisits setting at [] = Unit {0}
AreVisits setting at (one ∷ visits) = AreExchanges setting at 0 one.xs × AreVisits setting at visits

-- connections of a door, from a first moment to a last one: they are a row; each that came was handed back before the next one
-- came; and as seen from the first moment: each exchange is lawful by the objects as they stood then; the logs of the requests go
-- on from the first one up to the last; what the hand heard is cut into one part a request, and a rest for each connection, and so
-- is what each link heard; a load, or a link, failed for each that was answered so; and the share has grown by what is told of all
-- connections. Both, since a page is lawful by its own moment, while completeness is asked from the first one
pub record ServesVisits
    {T : Type 0} (setting : ConnSetting T) (a : ConnStage T) (before : ShownDoor) (b : ConnStage T) (after : ShownDoor) : Type 0 where
  pub visits : List Visit
  pub row : VisitsRow setting a visits b
  pub calls : Gains before.calls (flat_map visit_calls visits) after.calls
  pub faults : before.faults ≤ after.faults
  pub are : AreVisits setting a visits
  pub logs : LogsGrow a.log (all_exchanges visits) b.log
  pub epoch : b.epoch ≡ a.epoch
  pub hears : Hears (hand_at setting a) (setting.shows b.hand) (flat_map visit_answers visits) ⊥
  pub asks : LinksHear a.links (all_parts (map visit_parts visits)) b.links
  pub failed : summed (setting.shows a.hand).faults (count_by (λ x. says_read_fault x.served.reason) (all_exchanges visits))
      ≤ (setting.shows b.hand).faults
  pub links_failed : LinksFailed a.links (count_by (λ x. says_upstream_fault x.served.reason) (all_exchanges visits)) b.links
  pub tallies : TalliesServed (flat_map (λ one. one.report.served.items) visits) a.share b.share

-- what a door said last that ended so
abbrev pub said_at : DoorEnd → DoorSaid
said_at end.Closed = said.Closed
said_at end.Failed = said.Failed

-- the door said so last; it failed only where its count rose
pub record EndsDoor (before : ShownDoor) (why : DoorEnd) (after : ShownDoor) : Type 0 where
  pub last : after.last ≡ Some (said_at why)
  pub cause : HasCause before.faults after.faults (why ≡ end.Failed)

-- the connections of a door, until it closed or failed
pub record ServesDoor
    {T : Type 0} (setting : ConnSetting T) (a : ConnStage T) (before : ShownDoor) (why : DoorEnd) (b : ConnStage T) (after : ShownDoor)
    : Type 0 where
  pub serves : ServesVisits setting a before b after
  pub ends : EndsDoor before why after

-- a connection came, and was handed back
pub record ComesAndGoes (one : Visit) (before after : ShownDoor) : Type 0 where
  pub calls : Gains before.calls (visit_calls one) after.calls
  pub faults : before.faults ≤ after.faults

-- a connection was served, from this moment to that one
pub record TakesVisit {T : Type 0} (setting : ConnSetting T) (a : ConnStage T) (before : ShownDoor) (b : ConnStage T) (after : ShownDoor) : Type 0 where
  pub one : Visit
  pub is : IsVisit setting a one b
  pub goes : ComesAndGoes one before after

-- no connection came, and nothing was asked of the objects
pub record TakesNobody
    {T : Type 0} (a : ConnStage T) (before : ShownDoor) (why : DoorEnd) (b : ConnStage T) (after : ShownDoor) : Type 0 where
  pub stands : b ≡ a
  pub calls : Gains before.calls [] after.calls
  pub ends : EndsDoor before why after

-- the next connection was served, or none came
abbrev pub TakesNextVisit : {T : Type 0} → ConnSetting T → ConnStage T → ShownDoor → Option DoorEnd → ConnStage T → ShownDoor → Type 0
TakesNextVisit setting a before None b after = TakesVisit setting a before b after
TakesNextVisit setting a before (Some why) b after = TakesNobody a before why b after
