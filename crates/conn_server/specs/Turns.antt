-- One request of a connection (this project's rule): it is read, decided and answered.
use Rattle.std.specs.Prelude.{◌≡◌, Bool, true, false, List, [], ℕ, if◌then◌else◌, length, Result, Ok, Err}
use Rattle.row_types.specs.Faults.{Rose}
use Rattle.http_wire.specs.Heads.{RefusesAsHead}
use Rattle.http_wire.specs.Source.{HasEnded}
use Rattle.http_wire.specs.Stream.{ShownStream}
use Rattle.http_wire.specs.declared.head.HeadFault.TheVariants.{Cut}
use Rattle.http_wire.specs.declared.reply.ReplyFault.TheVariants as reply_fault
use Rattle.conn_server.specs.Asked.{Request, closes_after, readable, refused}
use Rattle.conn_server.specs.Exchange.{Exchange, IsBodyCut, IsReplyDue, IsExchange, IsWriteCut, LeadsByExchange, LeavesUnanswered, MovesInOrder, NoMore}
use Rattle.conn_server.specs.Links.{HeardFor}
use Rattle.conn_server.specs.Stage.{ConnSetting, ConnStage, Wire}
use Rattle.conn_server.specs.declared.report.ConnEnd.{ConnEnd}
use Rattle.conn_server.specs.declared.report.ConnEnd.TheVariants as end
use Rattle.conn_server.specs.declared.report.Served.{Served}
use Rattle.conn_server.specs.declared.send_fault.SendFault.{SendFault}
use Rattle.conn_server.specs.declared.send_fault.SendFault.TheVariants as sending
use Rattle.conn_server.specs.declared.turn.ConnTurn.{ConnTurn}
use Rattle.conn_server.specs.declared.turn.ConnTurn.TheVariants as turn

-- how a connection ends where a reply wasn't written whole
abbrev pub end_by_fault : SendFault → ConnEnd
end_by_fault (sending.Reply reply_fault.OutOfMemory) = end.OutOfMemory
end_by_fault (sending.Reply reply_fault.WriteFault) = end.WriteFault
end_by_fault (sending.Body why) = end.BodyFault why

-- how a connection ends behind a reply to a head that closes
abbrev pub end_of_head : Bool → ConnEnd
end_of_head last = if last then end.Limit else end.Closed

-- how a connection ends behind a reply that closes
abbrev pub end_after : Request → Bool → ConnEnd
end_after (readable head) last = end_of_head last
end_after (refused fault) last = end.Refused

-- what came of a request, by what is told of its reply: the connection goes on, or it ends so
abbrev pub turn_by : Result Served SendFault → Bool → ConnEnd → ConnTurn
turn_by (Ok served) true why = turn.Last served why
turn_by (Ok served) false why = turn.Replied served
turn_by (Err stop) close why = turn.Ended (end_by_fault stop)

-- a request was answered whole, and the connection ends behind it or goes on
pub record Exchanges
    {T : Type 0} (setting : ConnSetting T) (last : Bool) (a : ConnStage T) (v : Wire) (served : Served) (closes : Bool) (b : ConnStage T)
    (w : Wire) : Type 0 where
  pub x : Exchange
  pub told : x.served ≡ served
  pub is : IsExchange setting last a x
  pub leads : LeadsByExchange setting x a b
  pub moves : MovesInOrder x.front x.bytes v w
  pub ends : closes_after x.request last ≡ closes

-- how a connection ends behind a reply that closes, with its cause
abbrev pub EndsBehind : Bool → Request → Wire → ConnEnd → Type 0
EndsBehind last (readable head) w why = why ≡ end_of_head last
EndsBehind last (refused fault) w why = (why ≡ end.Refused) × RefusesAsHead fault w.held w.stream.left

-- why a connection ends without a further whole reply
abbrev pub StopsFor : {T : Type 0} → ConnSetting T → Bool → ConnStage T → Wire → HeardFor → List ℕ → ConnStage T → Wire → ConnEnd → Type 0
StopsFor setting last a v rest part b w end.Closed = NoMore rest part × (w.held ≡ []) × HasEnded w.stream.left
StopsFor setting last a v rest part b w end.Cut = NoMore rest part × RefusesAsHead (Cut (length w.held)) w.held w.stream.left
StopsFor setting last a v rest part b w end.ReadFault = NoMore rest part × Rose v.stream.read_faults w.stream.read_faults
StopsFor setting last a v rest part b w end.WriteFault =
    IsWriteCut setting last a rest part b.log b.share w × Rose v.stream.write_faults w.stream.write_faults
StopsFor setting last a v rest part b w (end.BodyFault why) = IsBodyCut setting last a rest part b w why
StopsFor setting last a v rest part b w end.OutOfMemory =
    (part ≡ []) × (rest.sent ≡ []) × IsReplyDue setting last a rest b.log b.share w
StopsFor setting last a v rest part b w _ = ⊥

-- no further request was answered whole
pub record Stops
    {T : Type 0} (setting : ConnSetting T) (last : Bool) (a : ConnStage T) (v : Wire) (why : ConnEnd) (b : ConnStage T) (w : Wire)
    : Type 0 where
  pub rest : HeardFor
  pub part : List ℕ
  pub leaves : LeavesUnanswered setting rest part a v b w
  pub cause : StopsFor setting last a v rest part b w why

-- the last reply of a connection
pub record ClosesConnection
    {T : Type 0} (setting : ConnSetting T) (last : Bool) (a : ConnStage T) (v : Wire) (served : Served) (why : ConnEnd) (b : ConnStage T)
    (w : Wire) : Type 0 where
  pub one : Exchanges setting last a v served true b w
  pub cause : EndsBehind last one.x.request w why

-- a reply behind which the connection goes on
pub record GoesOnBehind
    {T : Type 0} (setting : ConnSetting T) (last : Bool) (a : ConnStage T) (v : Wire) (served : Served) (b : ConnStage T) (w : Wire)
    : Type 0 where
  pub one : Exchanges setting last a v served false b w
  pub open_ : w.over ≡ false

-- the same, of the stream alone: some bytes may be held of it
abbrev pub ClosesOn : {T : Type 0} → ConnSetting T → Bool → ConnStage T → Wire → Served → ConnEnd → ConnStage T → ShownStream → Type 0
ClosesOn setting last a v served why b after = (w : Wire) × (w.stream ≡ after) × ClosesConnection setting last a v served why b w

-- no further request was answered whole, of the stream alone
abbrev pub StopsOn : {T : Type 0} → ConnSetting T → Bool → ConnStage T → Wire → ConnEnd → ConnStage T → ShownStream → Type 0
StopsOn setting last a v why b after = (w : Wire) × (w.stream ≡ after) × Stops setting last a v why b w

-- what came of the next request
abbrev pub Turns : {T : Type 0} → ConnSetting T → Bool → ConnStage T → Wire → ConnTurn → ConnStage T → Wire → Type 0
Turns setting last a v (turn.Replied served) b w = GoesOnBehind setting last a v served b w
Turns setting last a v (turn.Last served why) b w = ClosesOn setting last a v served why b w.stream
Turns setting last a v (turn.Ended why) b w = StopsOn setting last a v why b w.stream
