-- Sending a file in pieces (this project's rule): each piece is read, compared with what was checked of the file, and written.
use Rattle.std.specs.Prelude.{◌≡◌, ℕ, ◌-◌, ◌*◌, ◌<◌, ◌≤◌, List, [], ◌∷◌, ◌++◌, length, min, take}
use mathlib.Core.List.{IsPrefix}
use Rattle.file_formats.specs.Numbers.{bytes_at}
use Rattle.file_picture.specs.Agrees.{AgreesWithPicture}
use Rattle.file_picture.specs.Difference.{AgreesAt, IsFirstDifference}
use Rattle.file_picture.specs.Picture.{PictureFacts}
use Rattle.file_picture.specs.declared.difference.Difference.{Difference}
use Rattle.row_types.specs.Faults.{Rose}
use Rattle.row_types.specs.Name.{NameFacts}
use Rattle.row_types.specs.Stamp.{StampFacts}
use Rattle.tree_trait.specs.Found.{Versions}
use Rattle.tree_trait.specs.Heard.{Heard, read_at}
use Rattle.tree_trait.specs.Open.{RoomFacts, room_filled, room_failed}
use Rattle.tree_trait.specs.Shown.{ShownTree}
use Rattle.http_wire.specs.Sink.{GetsAll, GetsPart}
use Rattle.http_wire.specs.Stream.{ShownStream}
use Rattle.http_wire.specs.declared.reply.ReplyFault.TheVariants.{WriteFault}
use Rattle.answer_core.specs.Loads.{Hand, Hears}
use Rattle.conn_server.specs.declared.pieces.TheConstants.{PIECE}
use Rattle.conn_server.specs.declared.report.BodyCause.{BodyCause}
use Rattle.conn_server.specs.declared.report.BodyCause.TheVariants as cause
use Rattle.conn_server.specs.declared.send_fault.SendFault.{SendFault}
use Rattle.conn_server.specs.declared.send_fault.SendFault.TheVariants as sending

-- these reads of the open file of a name gave these bytes, from its start on, a piece behind the other: each but the last is a
-- whole one, none is larger, and none is empty
pub data ArePiecesRead (name : NameFacts) : List Heard → List ℕ → Type 0 where
  no_piece : ArePiecesRead name [] []
  piece_read : (reads : List Heard) (front : List ℕ) (bytes : List ℕ) → ArePiecesRead name reads front
      → length front ≡ length reads * PIECE → 0 < length bytes → length bytes ≤ PIECE
      → ArePiecesRead name (reads ++ read_at name (length front) (room_filled bytes) ∷ []) (front ++ bytes)

-- how many bytes a read was asked for
abbrev pub asked_len : RoomFacts → ℕ
asked_len (room_filled bytes) = length bytes
asked_len (room_failed len) = len

-- a path and a stamp name one content, as they do in a told world; that no change is told, and that a body is the content, is said
-- where they do, and not of a told world, for each of which a law of `Truth` gives it
abbrev pub NamesOneContent : Versions → Type 0
NamesOneContent version =
    (path : List ℕ) (stamp : StampFacts) (a b : List ℕ) → version path stamp a → version path stamp b → a ≡ b

-- where they do, these bytes are those that stand at a place of the content of this name
abbrev pub AreContentAt : Versions → NameFacts → ℕ → List ℕ → Type 0
AreContentAt version name at bytes =
    NamesOneContent version → (b : List ℕ) → version name.path name.stamp b → bytes ≡ bytes_at b at (length bytes)

-- where they do, these bytes are the content of this name
abbrev pub AreContentOf : Versions → NameFacts → List ℕ → Type 0
AreContentOf version name bytes = NamesOneContent version → version name.path name.stamp bytes

-- a byte that was checked at a place, and the one that is seen there
abbrev pub byte_change : ℕ → ℕ → ℕ → Difference
byte_change at checked seen = record { at = at; checked = checked; seen = seen }

-- why a piece of a file isn't written, by what the read of it answered: the read failed, and the hand's count rose; or the first
-- byte that isn't the one that was checked is this one, which no file has where a path and a stamp name one content. That the count
-- rose is said from the moment on at which the request came, as of its loads
abbrev pub IsBodyCause : Hand → PictureFacts → ℕ → RoomFacts → ShownTree → BodyCause → Type 0
IsBodyCause hand p at (room_failed len) now cause.ReadFault = Rose hand.start.faults now.faults
IsBodyCause hand p at (room_filled bytes) now (cause.Changed place checked seen) =
    IsFirstDifference p at bytes (byte_change place checked seen) × (NamesOneContent hand.version → ⊥)
IsBodyCause _ _ _ _ _ _ = ⊥

-- a piece was read, agrees with what was checked, and was written whole
pub record SendsPiece (hand : Hand) (name : NameFacts) (p : PictureFacts) (at : ℕ) (piece : List ℕ) (before : ShownStream)
    (now : ShownTree) (after : ShownStream) : Type 0 where
  pub hears : Hears hand now (read_at name at (room_filled piece) ∷ []) ⊥
  pub agrees : AgreesAt p at piece
  pub content : AreContentAt hand.version name at piece
  pub gets : GetsAll piece before after

-- a piece of so many bytes was read and agrees, and a write of it failed
pub record CutsPiece (hand : Hand) (name : NameFacts) (p : PictureFacts) (at len : ℕ) (before : ShownStream) (now : ShownTree)
    (after : ShownStream) : Type 0 where
  pub piece : List ℕ
  pub sized : length piece ≡ len
  pub hears : Hears hand now (read_at name at (room_filled piece) ∷ []) ⊥
  pub agrees : AgreesAt p at piece
  pub content : AreContentAt hand.version name at piece
  pub gets : GetsPart piece before after

-- a piece of so many bytes was to be read, and nothing of it was written, for this cause
pub record LeavesPiece (hand : Hand) (name : NameFacts) (p : PictureFacts) (at len : ℕ) (before : ShownStream) (now : ShownTree)
    (after : ShownStream) (why : BodyCause) : Type 0 where
  pub answer : RoomFacts
  pub asked : asked_len answer ≡ len
  pub hears : Hears hand now (read_at name at answer ∷ []) ⊥
  pub is : IsBodyCause hand p at answer now why
  pub same : after ≡ before

-- why a piece wasn't written, or not whole
abbrev pub StopsPiece : Hand → NameFacts → PictureFacts → ℕ → ℕ → ShownStream → ShownTree → ShownStream → SendFault → Type 0
StopsPiece hand name p at len before now after (sending.Reply WriteFault) = CutsPiece hand name p at len before now after
StopsPiece hand name p at len before now after (sending.Body why) = LeavesPiece hand name p at len before now after why
StopsPiece hand name p at len before now after _ = ⊥

-- what came of bytes that were read as a piece: they differ from what was checked, or a write of them failed
abbrev pub StopsRead : PictureFacts → ℕ → List ℕ → ShownStream → ShownStream → SendFault → Type 0
StopsRead p at piece before after (sending.Reply WriteFault) = AgreesAt p at piece × GetsPart piece before after
StopsRead p at piece before after (sending.Body (cause.Changed place checked seen)) =
    IsFirstDifference p at piece (byte_change place checked seen) × (after ≡ before)
StopsRead p at piece before after _ = ⊥

-- so many bytes of a file were read and written, a piece behind the other, and agree with what was checked; while more are to
-- come each piece was a whole one
pub record SendsFront (hand : Hand) (name : NameFacts) (p : PictureFacts) (at : ℕ) (before : ShownStream) (now : ShownTree)
    (after : ShownStream) : Type 0 where
  pub reads : List Heard
  pub front : List ℕ
  pub read : ArePiecesRead name reads front
  pub sized : length front ≡ at
  pub whole : at < p.size → at ≡ length reads * PIECE
  pub agrees : AgreesAt p 0 front
  pub content : AreContentAt hand.version name 0 front
  pub hears : Hears hand now reads ⊥
  pub gets : GetsAll front before after

-- a file was read and written whole, and agrees with what was checked
pub record SendsFile (hand : Hand) (name : NameFacts) (p : PictureFacts) (before : ShownStream) (now : ShownTree)
    (after : ShownStream) : Type 0 where
  pub body : List ℕ
  pub sent : List Heard
  pub read : ArePiecesRead name sent body
  pub agrees : AgreesWithPicture body p
  pub content : AreContentOf hand.version name body
  pub hears : Hears hand now sent ⊥
  pub gets : GetsAll body before after

-- the file of which these reads gave this body wasn't read on at a place, for this cause: what was heard is the reads of the pieces
-- before it, all of them whole, and the read of the next one
pub record LeavesBody (hand : Hand) (name : NameFacts) (p : PictureFacts) (sent heard : List Heard) (at : ℕ) (now : ShownTree)
    (why : BodyCause) : Type 0 where
  pub whole : List Heard
  pub answer : RoomFacts
  pub heard_is : heard ≡ whole ++ read_at name at answer ∷ []
  pub goes_on : IsPrefix whole sent
  pub place : at ≡ length whole * PIECE
  pub below : at < p.size
  pub asked : asked_len answer ≡ min PIECE (p.size - at)
  pub is : IsBodyCause hand p at answer now why

-- how the sending of a file ended before its end: in the write of a piece, which was read as the body's; or before it, and then
-- nothing is written of it
pub data BreaksBody (hand : Hand) (name : NameFacts) (p : PictureFacts) (body : List ℕ) (sent heard : List Heard)
    (before : ShownStream) (now : ShownTree) (after : ShownStream) : SendFault → Type 0 where
  cut_write : IsPrefix heard sent → GetsPart body before after
      → BreaksBody hand name p body sent heard before now after (sending.Reply WriteFault)
  left_piece : (why : BodyCause) (at : ℕ) → LeavesBody hand name p sent heard at now why → GetsAll (take at body) before after
      → BreaksBody hand name p body sent heard before now after (sending.Body why)

-- a file wasn't written whole: some body that agrees with what was checked goes on from what was written
pub record StopsFile (hand : Hand) (name : NameFacts) (p : PictureFacts) (before : ShownStream) (now : ShownTree)
    (after : ShownStream) (end : SendFault) : Type 0 where
  pub body : List ℕ
  pub sent : List Heard
  pub read : ArePiecesRead name sent body
  pub agrees : AgreesWithPicture body p
  pub content : AreContentOf hand.version name body
  pub heard : List Heard
  pub hears : Hears hand now heard ⊥
  pub breaks : BreaksBody hand name p body sent heard before now after end
