-- What is to be done about what was read of a connection (this project's rule), and doing it.
use Rattle.std.specs.Prelude.{◌≡◌, ℕ, Bool, true, [], Option, Some, None, Result, IsTrue}
use Rattle.row_types.specs.Faults.{HasCause}
use Rattle.row_types.specs.Name.{NameFacts}
use Rattle.tree_trait.specs.Found.{Versions}
use Rattle.tree_trait.specs.Shown.{ShownTree}
use Rattle.http_wire.specs.Reader.{AnswersNext, head_failed}
use Rattle.http_wire.specs.ReaderFacts.{ReaderFacts}
use Rattle.http_wire.specs.Stream.{ShownStream, LeavesWriting}
use Rattle.http_wire.specs.declared.head.Head.{Head}
use Rattle.http_wire.specs.declared.head.HeadAnswer.{HeadAnswer}
use Rattle.http_wire.specs.declared.head.HeadAnswer.TheVariants as answer
use Rattle.http_wire.specs.declared.head.HeadFault.{HeadFault}
use Rattle.answer_core.specs.Loads.{Hand, Hears}
use Rattle.dbgd_metrics.specs.Shares.{ShareFacts}
use Rattle.conn_server.specs.Asked.{closes_after, readable, sends_body, told_facts}
use Rattle.conn_server.specs.Bodies.{DecidedFacts, decided_facts}
use Rattle.conn_server.specs.Decided.{Decides, plain}
use Rattle.conn_server.specs.Replies.{reason_of_head}
use Rattle.conn_server.specs.Stage.{ConnSetting, ConnStage}
use Rattle.conn_server.specs.Sent.{CanSend, CountsSent, Sends, told_as}
use Rattle.conn_server.specs.Turns.{end_of_head, turn_by}
use Rattle.conn_server.specs.declared.plan.ReplyPlan.{ReplyPlan}
use Rattle.conn_server.specs.declared.plan.ReplyPlan.TheVariants as plan
use Rattle.conn_server.specs.declared.reason.Reason.{Reason}
use Rattle.conn_server.specs.declared.report.Asked.TheVariants as asked
use Rattle.conn_server.specs.declared.report.ConnEnd.{ConnEnd}
use Rattle.conn_server.specs.declared.report.ConnEnd.TheVariants as end
use Rattle.conn_server.specs.declared.send_fault.SendFault.{SendFault}
use Rattle.conn_server.specs.declared.turn.ConnTurn.{ConnTurn}
use Rattle.conn_server.specs.declared.turn.ConnTurn.TheVariants as turn

-- the connection ends; or a reply is written to what is decided, which closes or doesn't, with its body or without, and this is how
-- the connection ends behind it if it closes
pub data TurnPlan : Type 0 where
  ends_so : (why : ConnEnd) → TurnPlan
  replies_so : (decided : DecidedFacts) (close with_body : Bool) (why : ConnEnd) → TurnPlan

-- what is to be done, by the path and the stamp with which files were opened
abbrev pub turn_plan : {F : Type 0} → (F → NameFacts) → ReplyPlan F → TurnPlan
turn_plan opened (plan.End why) = ends_so why
turn_plan opened (plan.Reply decided form why) = replies_so (decided_facts opened decided) form.close form.with_body why

-- a reply can be written to what is decided
abbrev pub CanPlan : Versions → TurnPlan → Type 0
CanPlan version (ends_so why) = Unit {0}
CanPlan version (replies_so decided close with_body why) = CanSend version decided

-- a head is decided, and gets a reply that closes where it asks to, or is the last
pub record PlansHead
    {T : Type 0} (setting : ConnSetting T) (a : ConnStage T) (head : Head) (last : Bool) (what : TurnPlan) (b : ConnStage T) : Type 0 where
  pub decided : DecidedFacts
  pub decides : Decides setting a (readable (told_facts head)) decided b
  pub is :
      what ≡ replies_so decided (closes_after (readable (told_facts head)) last) (sends_body (readable (told_facts head)))
      (end_of_head last)

-- bytes that are no head get a reply that closes; those that were cut off get none
abbrev pub PlansFor : Option Reason → HeadFault → TurnPlan → Type 0
PlansFor None fault what = what ≡ ends_so end.Cut
PlansFor (Some why) fault what = what ≡ replies_so (plain (asked.Head fault) why) true true end.Refused

-- the same of why they are no head
abbrev pub PlansRefusal : HeadFault → TurnPlan → Type 0
PlansRefusal fault what = PlansFor (reason_of_head fault) fault what

-- what is to be done about what was read; but for a head, nothing is asked of the objects
abbrev pub Plans : {T : Type 0} → ConnSetting T → ConnStage T → HeadAnswer → Bool → TurnPlan → ConnStage T → Type 0
Plans setting a (answer.Head head) last what b = PlansHead setting a head last what b
Plans setting a answer.Closed last what b = (what ≡ ends_so end.Closed) × (b ≡ a)
Plans setting a (answer.Refused fault) last what b = PlansRefusal fault what × (b ≡ a)
Plans setting a answer.ReadFault last what b = (what ≡ ends_so end.ReadFault) × (b ≡ a)

-- the next request is read, and this is to be done about it
pub record PlansNext
    {T : Type 0} (setting : ConnSetting T) (a : ConnStage T) (reader : ReaderFacts) (last : Bool) (before : ShownStream) (what : TurnPlan)
    (b : ConnStage T) (reader_after : ReaderFacts) (after : ShownStream) : Type 0 where
  pub answer : HeadAnswer
  pub reads : AnswersNext reader before reader_after after answer
  pub cause : HasCause before.read_faults after.read_faults (IsTrue (head_failed answer))
  pub apart : LeavesWriting before after
  pub plans : Plans setting a answer last what b

-- the reply is written, and counted, or it isn't written whole
pub record RepliesSo
    (hand : Hand) (decided : DecidedFacts) (close with_body : Bool) (why : ConnEnd) (old : ShareFacts) (before : ShownStream)
    (what : ConnTurn) (new : ShareFacts) (now : ShownTree) (after : ShownStream) : Type 0 where
  pub result : Result ℕ SendFault
  pub sends : Sends hand decided.reason decided.body close with_body before now after result
  pub counts : CountsSent (told_as decided result) old new
  pub is : what ≡ turn_by (told_as decided result) close why

-- nothing is written, counted or read
pub record EndsSo
    (hand : Hand) (why : ConnEnd) (old : ShareFacts) (before : ShownStream) (what : ConnTurn) (new : ShareFacts) (now : ShownTree)
    (after : ShownStream) : Type 0 where
  pub is : what ≡ turn.Ended why
  pub uncounted : new ≡ old
  pub hears : Hears hand now [] ⊥
  pub same : after ≡ before

-- what came of doing it
abbrev pub CarriesOut : Hand → TurnPlan → ShareFacts → ShownStream → ConnTurn → ShareFacts → ShownTree → ShownStream → Type 0
CarriesOut hand (ends_so why) old before what new now after = EndsSo hand why old before what new now after
CarriesOut hand (replies_so decided close with_body why) old before what new now after =
    RepliesSo hand decided close with_body why old before what new now after
