-- Writing a reply (this project's rule): all its bytes were written, or not, and then why.
use Rattle.std.specs.Prelude.{◌≡◌, ℕ, ◌+◌, ◌-◌, ◌<◌, Bool, true, List, [], length, take, Option, Result, Ok, Err, if◌then◌else◌}
use mathlib.Core.List.{IsPrefix}
use Rattle.file_picture.specs.Picture.{PictureFacts}
use Rattle.row_types.specs.Name.{NameFacts}
use Rattle.tree_trait.specs.Found.{Versions}
use Rattle.tree_trait.specs.Heard.{Heard}
use Rattle.tree_trait.specs.Opened.{HoldsPicture}
use Rattle.tree_trait.specs.Shown.{ShownTree}
use Rattle.http_wire.specs.ReplyFault.{FailsReply}
use Rattle.http_wire.specs.Sink.{GetsAll, GetsPart}
use Rattle.http_wire.specs.Stream.{ShownStream}
use Rattle.http_wire.specs.declared.reply.ReplyFault.{ReplyFault}
use Rattle.http_wire.specs.declared.reply.ReplyFault.TheVariants as reply_fault
use Rattle.answer_core.specs.Loads.{Hand, Hears}
use Rattle.answer_core.specs.Local.{file_found}
use Rattle.dbgd_metrics.specs.Shares.{ShareFacts}
use Rattle.conn_server.specs.Bodies.{BodyFacts, DecidedFacts, found_here}
use Rattle.conn_server.specs.Lawful.{IsBodySent, IsContentSent}
use Rattle.conn_server.specs.Pieces.{LeavesBody, SendsFile, StopsFile}
use Rattle.conn_server.specs.Tallied.{CountsServed}
use Rattle.conn_server.specs.Replies.{Shows, bytes_of, status_of}
use Rattle.conn_server.specs.declared.report.Asked as declared
use Rattle.conn_server.specs.declared.report.BodyCause.{BodyCause}
use Rattle.conn_server.specs.declared.reason.Reason.{Reason}
use Rattle.conn_server.specs.declared.report.Served.{Served}
use Rattle.conn_server.specs.declared.send_fault.SendFault.{SendFault}
use Rattle.conn_server.specs.declared.send_fault.SendFault.TheVariants as sending

-- how many bytes of a body are written
abbrev pub sent_len : Bool → List ℕ → ℕ
sent_len with_body body = if with_body then length body else 0

-- these bytes are written whole, and so many of them are of the body; or they aren't
abbrev pub WritesWhole : List ℕ → ℕ → ShownStream → ShownStream → Result ℕ ReplyFault → Type 0
WritesWhole bytes len before after (Ok n) = GetsAll bytes before after × (n ≡ len)
WritesWhole bytes len before after (Err fault) = FailsReply fault bytes before after

-- the bytes of a body are written as the reply of a reason, told to come from this path
abbrev pub WritesBytes : Reason → List ℕ → Option (List ℕ) → Bool → Bool → ShownStream → ShownStream → Result ℕ ReplyFault
    → Type 0
WritesBytes why body file close with_body before after result =
    WritesWhole (bytes_of why body file close with_body) (sent_len with_body body) before after result

-- the same, where what isn't written whole may be a file; these bytes are held, and none of them is read anew
abbrev pub SendsBytes : Reason → List ℕ → Option (List ℕ) → Bool → Bool → ShownStream → ShownStream → Result ℕ SendFault
    → Type 0
SendsBytes why body file close with_body before after (Ok n) = WritesBytes why body file close with_body before after (Ok n)
SendsBytes why body file close with_body before after (Err (sending.Reply fault)) =
    WritesBytes why body file close with_body before after (Err fault)
SendsBytes why body file close with_body before after (Err (sending.Body cause)) = ⊥

-- the file of this name is written, in pieces, and has so many bytes; or it isn't written whole
abbrev pub SendsContents : Hand → NameFacts → PictureFacts → ShownStream → ShownTree → ShownStream → Result ℕ SendFault → Type 0
SendsContents hand name p before now after (Ok n) = SendsFile hand name p before now after × (n ≡ p.size)
SendsContents hand name p before now after (Err why) = StopsFile hand name p before now after why

-- nothing is read and written of it
pub record SendsNothing (hand : Hand) (before : ShownStream) (now : ShownTree) (after : ShownStream) (result : Result ℕ SendFault)
    : Type 0 where
  pub none : result ≡ Ok 0
  pub hears : Hears hand now [] ⊥
  pub same : after ≡ before

-- what is sent behind the head of a reply with a file
abbrev pub SendsBehind : Hand → NameFacts → PictureFacts → Bool → ShownStream → ShownTree → ShownStream → Result ℕ SendFault → Type 0
SendsBehind hand name p true before now after result = SendsContents hand name p before now after result
SendsBehind hand name p _ before now after result = SendsNothing hand before now after result

-- a picture of a version of the open file is there for each file that is carried
abbrev pub CanCarry : Versions → BodyFacts → Type 0
CanCarry version (found_here (file_found from name path generation)) = HoldsPicture version name.path name.stamp from.picture
CanCarry version _ = Unit {0}

-- the same of what is decided
abbrev pub CanSend : Versions → DecidedFacts → Type 0
CanSend version decided = CanCarry version decided.body

-- the file that is carried wasn't read on at a place, for this cause
abbrev pub LeavesCarried : Hand → BodyFacts → List Heard → List Heard → ℕ → ShownTree → BodyCause → Type 0
LeavesCarried hand (found_here (file_found from name path generation)) sent heard at now why =
    LeavesBody hand name from.picture sent heard at now why
LeavesCarried hand _ sent heard at now why = ⊥

-- the reply with a file was written up to this place of its body, where it is sent, and no further
pub record LeavesReply (hand : Hand) (carried : BodyFacts) (with_body : Bool) (bytes body : List ℕ) (sent heard : List Heard)
    (before : ShownStream) (now : ShownTree) (after : ShownStream) (why : BodyCause) : Type 0 where
  pub get : with_body ≡ true
  pub at : ℕ
  pub below : at < length body
  pub leaves : LeavesCarried hand carried sent heard at now why
  pub count : ℕ
  pub left : count + (length body - at) ≡ length bytes
  pub gets : GetsAll (take count bytes) before after

-- what was heard and written of a reply with these bytes, for whose body this is to be read, by what came of it: of a reply that
-- wasn't written whole a part, and then of the reads as well
abbrev pub Delivers : Hand → BodyFacts → Bool → List ℕ → List ℕ → List Heard → List Heard → ShownStream → ShownTree → ShownStream
    → Result ℕ SendFault → Type 0
Delivers hand carried with_body bytes body sent heard before now after (Ok n) =
    (heard ≡ sent) × GetsAll bytes before after × (n ≡ sent_len with_body body)
Delivers hand carried with_body bytes body sent heard before now after (Err (sending.Reply reply_fault.OutOfMemory)) = (heard ≡ []) × (after ≡ before)
Delivers hand carried with_body bytes body sent heard before now after (Err (sending.Reply reply_fault.WriteFault)) =
    IsPrefix heard sent × GetsPart bytes before after
Delivers hand carried with_body bytes body sent heard before now after (Err (sending.Body why)) =
    LeavesReply hand carried with_body bytes body sent heard before now after why

-- the reply that carries this is written, or not whole
pub record Sends (hand : Hand) (why : Reason) (carried : BodyFacts) (close with_body : Bool) (before : ShownStream)
    (now : ShownTree) (after : ShownStream) (result : Result ℕ SendFault) : Type 0 where
  pub body : List ℕ
  pub file : Option (List ℕ)
  pub shows : Shows why carried body file
  pub content : IsContentSent hand.version carried body
  pub sent : List Heard
  pub reads : IsBodySent carried with_body body sent
  pub heard : List Heard
  pub hears : Hears hand now heard ⊥
  pub delivers :
      Delivers hand carried with_body (bytes_of why body file close with_body) body sent heard before now after result

-- what is told of a request whose reply has so many bytes of a body
abbrev pub served_of : declared.Asked → Reason → ℕ → ℕ → Served
served_of what why generation len =
    record { asked = what; gen_ = generation; status = status_of why; reason = why; len = len }

-- what is told, where the reply was written
abbrev pub told_of : declared.Asked → Reason → ℕ → Result ℕ SendFault → Result Served SendFault
told_of what why generation (Ok len) = Ok (served_of what why generation len)
told_of what why generation (Err stop) = Err stop

-- what is told of what was decided
abbrev pub served_as : DecidedFacts → ℕ → Served
served_as decided len = served_of decided.asked decided.reason decided.generation len

-- the same, where its reply was written
abbrev pub told_as : DecidedFacts → Result ℕ SendFault → Result Served SendFault
told_as decided result = told_of decided.asked decided.reason decided.generation result

-- the request is counted where its reply was written whole
abbrev pub CountsSent : Result Served SendFault → ShareFacts → ShareFacts → Type 0
CountsSent (Ok served) old new = CountsServed served old new
CountsSent (Err stop) old new = new ≡ old

-- the reply to what is decided is written, or not whole, and this is told of it
pub record SendsDecided (hand : Hand) (decided : DecidedFacts) (close with_body : Bool) (before : ShownStream) (now : ShownTree)
    (after : ShownStream) (told : Result Served SendFault) : Type 0 where
  pub result : Result ℕ SendFault
  pub sends : Sends hand decided.reason decided.body close with_body before now after result
  pub is : told ≡ told_as decided result
