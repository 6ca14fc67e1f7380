-- One request with its reply (this project's rule), what it leads to, and what stands behind the last one.
use Rattle.std.specs.Prelude.{◌≡◌, ℕ, ◌+◌, ◌-◌, ◌<◌, ◌≤◌, Bool, true, List, [], ◌++◌, map, Option, length, take}
use Rattle.std.specs.List.{concat, list_any}
use mathlib.Core.List.{IsPrefix}
use Rattle.httparse.specs.Grammar.{RequestHead, print_request}
use Rattle.index_rows.specs.declared.change.Change.{Change}
use Rattle.tree_trait.specs.Heard.{Heard, call_failed}
use Rattle.http_wire.specs.Calls.{gave, took}
use Rattle.http_wire.specs.Find.{AreReadsWanted}
use Rattle.http_wire.specs.Heads.{IsServed, RefusesAsHead}
use Rattle.http_wire.specs.Sink.{Appends}
use Rattle.http_wire.specs.Source.{ComesFrom}
use Rattle.http_wire.specs.Told.{Gains}
use Rattle.answer_core.specs.Loads.{Hears}
use Rattle.dbgd_metrics.specs.Shares.{ShareFacts}
use Rattle.dbgd_metrics.specs.Totals.{OnlyNotes}
use Rattle.federation.specs.Heard.{LinkHeard}
use Rattle.conn_server.specs.Asked.{HeadFacts, Request, head_facts, readable, refused, sends_body}
use Rattle.conn_server.specs.Tallied.{CountsRequest}
use Rattle.conn_server.specs.Lawful.{IsLawful}
use Rattle.conn_server.specs.Links.{HeardFor, LinksHear, hand_heard, unheard}
use Rattle.conn_server.specs.PassedOver.{FindsAll}
use Rattle.conn_server.specs.Stage.{ConnSetting, ConnStage, Wire, hand_at, sight_at}
use Rattle.conn_server.specs.Sent.{LeavesCarried}
use Rattle.conn_server.specs.declared.reason.Reason.{Reason}
use Rattle.conn_server.specs.declared.reason.Reason.TheVariants as reason
use Rattle.conn_server.specs.declared.report.BodyCause.{BodyCause}
use Rattle.conn_server.specs.declared.report.Served.{Served}

-- one request with its reply: the bytes of its head, what is told of it, the bytes of the reply, what the hand was asked for it and
-- answered, before its reply was written and in the meantime, and each of the links, the log that the token had seen behind it, and
-- the share before the request was decided and behind that. A page is lawful by the share as it was then alone, while a load by a
-- hand that was still is so by every earlier moment
pub record Exchange : Type 0 where
  pub request : Request
  pub front : List ℕ
  pub served : Served
  pub bytes : List ℕ
  pub answers : List Heard
  pub sent : List Heard
  pub links : List (List LinkHeard)
  pub log : List Change
  pub own : ShareFacts
  pub noted : ShareFacts

-- what was asked for it and answered
abbrev pub heard_for : Exchange → HeardFor
heard_for x = record { answers = x.answers; sent = x.sent; links = x.links }

-- what the hand was asked for it in all
abbrev pub asked_for : Exchange → List Heard
asked_for x = hand_heard (heard_for x)

-- the bytes are those of a head that is served, and that says this
pub record IsHeadThatSays (facts : HeadFacts) (front : List ℕ) : Type 0 where
  pub head : RequestHead
  pub valid : IsServed head
  pub says : facts ≡ head_facts head
  pub printed : front ≡ print_request head

-- the bytes are the head of the request; those that are refused aren't cut off
abbrev pub IsFrontOf : Request → List ℕ → Type 0
IsFrontOf (readable facts) front = IsHeadThatSays facts front
IsFrontOf (refused fault) front = front ≡ []

-- the exchange is lawful by the objects as they stood, passes over no candidate, and its head is that of its request; it may be
-- the last that a connection has
pub record IsExchange {T : Type 0} (setting : ConnSetting T) (last : Bool) (at : ConnStage T) (x : Exchange) : Type 0 where
  pub lawful : IsLawful setting at x.own x.noted x.log x.answers x.sent x.links x.request last x.served x.bytes
  pub complete : FindsAll (sight_at setting at x.log x.answers) x.served.asked x.served.reason
  pub fronts : IsFrontOf x.request x.front

-- no candidate passed and a load failed, by the reply and what the hand answered: what a link's answer gave may be sent then
abbrev pub LoadFailed : Reason → List Heard → Type 0
LoadFailed reason.ReadFault answers = Unit {0}
LoadFailed reason.Upstream answers = list_any call_failed answers ≡ true
LoadFailed _ answers = ⊥

-- an exchange leads from a stage to the next one: a line for each object
pub record LeadsByExchange {T : Type 0} (setting : ConnSetting T) (x : Exchange) (a b : ConnStage T) : Type 0 where
  pub log : IsPrefix a.log b.log
  pub seen : x.log ≡ b.log
  pub epoch : b.epoch ≡ a.epoch
  pub hand : Hears (hand_at setting a) (setting.shows b.hand) (asked_for x) (LoadFailed x.served.reason x.answers)
  pub links : LinksHear a.links x.links b.links
  pub own : x.own ≡ a.share
  pub share : CountsRequest x.served a.share x.noted b.share

-- these bytes were in front of what was held and came, and those were written
pub record Moves (front bytes : List ℕ) (a b : Wire) : Type 0 where
  pub came : List ℕ
  pub comes : ComesFrom a.stream.left came b.stream.left
  pub cut : a.held ++ came ≡ front ++ b.held
  pub written : Appends a.stream.written bytes b.stream.written
  pub read_faults : a.stream.read_faults ≤ b.stream.read_faults
  pub write_faults : a.stream.write_faults ≤ b.stream.write_faults

-- all of what came was read before anything of this was written, each piece where it was wanted
pub record ReadsFirst (came bytes : List ℕ) (a b : Wire) : Type 0 where
  pub given : List (List ℕ)
  pub taken : List (List ℕ)
  pub reads : came ≡ concat given
  pub writes : bytes ≡ concat taken
  pub told : Gains a.stream.calls (map gave given ++ map took taken) b.stream.calls
  pub wanted : AreReadsWanted a.held given

-- these bytes were in front of what was held and came, and then those were written
pub record MovesInOrder (front bytes : List ℕ) (a b : Wire) : Type 0 where
  pub moves : Moves front bytes a b
  pub order : ReadsFirst moves.came bytes a b

-- without a whole reply this was heard, came and was written, and nothing was counted
pub record LeavesUnanswered {T : Type 0} (setting : ConnSetting T) (rest : HeardFor) (part : List ℕ) (a : ConnStage T) (v : Wire) (b : ConnStage T) (w : Wire)
    : Type 0 where
  pub log : IsPrefix a.log b.log
  pub epoch : b.epoch ≡ a.epoch
  pub hand : Hears (hand_at setting a) (setting.shows b.hand) (hand_heard rest) ⊥
  pub links : LinksHear a.links rest.links b.links
  pub share : OnlyNotes a.share b.share
  pub moves : MovesInOrder [] part v w

-- nothing was heard or written for a further request
abbrev pub NoMore : HeardFor → List ℕ → Type 0
NoMore rest part = (rest ≡ unheard) × (part ≡ [])

-- where the request is no head, the bytes that are held are refused for it
abbrev pub IsWhy : Request → List ℕ → Option (List ℕ) → Type 0
IsWhy (readable head) held left = Unit {0}
IsWhy (refused fault) held left = RefusesAsHead fault held left

-- a lawful reply to the next request is due: it was decided by what was heard before, and its head is in front of what is held
pub record IsReplyDue
    {T : Type 0} (setting : ConnSetting T) (last : Bool) (at : ConnStage T) (rest : HeardFor) (log : List Change) (share : ShareFacts) (w : Wire)
    : Type 0 where
  pub one : Exchange
  pub is : IsExchange setting last at one
  pub answers : one.answers ≡ rest.answers
  pub links : one.links ≡ rest.links
  pub logged : one.log ≡ log
  pub own : one.own ≡ at.share
  pub noted : one.noted ≡ share
  pub behind : List ℕ
  pub held_is : w.held ≡ one.front ++ behind
  pub why : IsWhy one.request w.held w.stream.left

-- a proper part of it was written
pub record IsPartWritten
    {T : Type 0} (setting : ConnSetting T) (last : Bool) (at : ConnStage T) (rest : HeardFor) (part : List ℕ) (log : List Change)
    (share : ShareFacts) (w : Wire) : Type 0 where
  pub due : IsReplyDue setting last at rest log share w
  pub count : ℕ
  pub proper : count < length due.one.bytes
  pub part_is : part ≡ take count due.one.bytes

-- a write failed in it: of its body no more was read than it has
pub record IsWriteCut
    {T : Type 0} (setting : ConnSetting T) (last : Bool) (at : ConnStage T) (rest : HeardFor) (part : List ℕ) (log : List Change)
    (share : ShareFacts) (w : Wire) : Type 0 where
  pub written : IsPartWritten setting last at rest part log share w
  pub read : IsPrefix rest.sent written.due.one.sent

-- it is sent with its body, and of that it was written up to a place, at which a piece of the file wasn't read as it was checked;
-- behind that place the reply that was due goes on with any bytes that agree with the picture, since what the file would have given
-- there nobody knows
pub record IsBodyCut
    {T : Type 0} (setting : ConnSetting T) (last : Bool) (at : ConnStage T) (rest : HeardFor) (part : List ℕ) (b : ConnStage T) (w : Wire)
    (why : BodyCause) : Type 0 where
  pub written : IsPartWritten setting last at rest part b.log b.share w
  pub get : sends_body written.due.one.request ≡ true
  pub place : ℕ
  pub left :
      written.count + (length written.due.is.lawful.replied.body - place) ≡ length written.due.one.bytes
  pub leaves :
      LeavesCarried (hand_at setting at) written.due.is.lawful.carried written.due.one.sent rest.sent place (setting.shows b.hand) why
