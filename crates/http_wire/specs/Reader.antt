-- What a call of the reader of heads does (this project's rule over the grammar of heads).
use Rattle.std.specs.Prelude.{◌≡◌, ℕ, Bool, true, false, List, [], ◌++◌, Option, MatchBool, IsTrue, drop}
use Rattle.httparse.specs.Grammar.{RequestHead, print_request}
use Rattle.httparse.specs.Spans.{span_bytes}
use Rattle.row_types.specs.Faults.{HasCause}
use Rattle.http_wire.specs.Find as find
use Rattle.http_wire.specs.Heads.{IsServed, RefusesAsHead, TellsHead}
use Rattle.http_wire.specs.Look.{HasHead}
use Rattle.http_wire.specs.ReaderFacts.{ReaderFacts}
use Rattle.http_wire.specs.Source.{ComesFrom, HasEnded}
use Rattle.http_wire.specs.Stream.{LeavesWriting, ShownStream}
use Rattle.http_wire.specs.declared.find.Find.{Find}
use Rattle.http_wire.specs.declared.find.Find.TheVariants as found
use Rattle.http_wire.specs.declared.head.Head.{Head}
use Rattle.http_wire.specs.declared.head.HeadAnswer.{HeadAnswer}
use Rattle.http_wire.specs.declared.head.HeadAnswer.TheVariants as answer
use Rattle.http_wire.specs.declared.head.HeadFault.{HeadFault}
use Rattle.http_wire.specs.declared.look.Found.{Found}

-- whether a read failed
abbrev pub head_failed : HeadAnswer → Bool
head_failed answer.ReadFault = true
head_failed _ = false

-- a reader that is over reads nothing; else the source ended before a head's first byte
abbrev pub IsReaderClosed : ReaderFacts → List ℕ → ReaderFacts → Option (List ℕ) → Type 0
IsReaderClosed old came new left = MatchBool old.over
    ((came ≡ []) × (new ≡ old))
    ((old.held ++ came ≡ []) × HasEnded left × (new.held ≡ []) × (new.over ≡ false))

-- the bytes held and those that came are no head, and the reader is over
abbrev pub IsHeadRefused : ReaderFacts → List ℕ → ReaderFacts → Option (List ℕ) → HeadFault → Type 0
IsHeadRefused old came new left fault =
    (old.over ≡ false) × (new.over ≡ true) × RefusesAsHead fault (old.held ++ came) left

-- a read failed, and the reader is over
abbrev pub IsCutOff : ReaderFacts → ReaderFacts → Type 0
IsCutOff old new = (old.over ≡ false) × (new.over ≡ true)

-- what an answer says: a head is in front of the bytes held and those that came, and what is behind it is held
abbrev pub Says : ReaderFacts → List ℕ → ReaderFacts → Option (List ℕ) → HeadAnswer → Type 0
Says old came new left (answer.Head head) =
    (old.over ≡ false) × (new.over ≡ false)
    × (h : RequestHead) × IsServed h × (old.held ++ came ≡ print_request h ++ new.held) × TellsHead head h
Says old came new left answer.Closed = IsReaderClosed old came new left
Says old came new left (answer.Refused fault) = IsHeadRefused old came new left fault
Says old came new left answer.ReadFault = IsCutOff old new

-- bytes came from the source, each read as it was wanted, and what the answer says of them
pub record AnswersNext
    (old : ReaderFacts) (before : ShownStream) (new : ReaderFacts) (after : ShownStream)
    (answer : HeadAnswer) : Type 0 where
  pub came : List ℕ
  pub comes : ComesFrom before.left came after.left
  pub wanted : find.ReadsAsWanted old.held came before after
  pub says : Says old came new after.left answer
  pub quiet : old.over ≡ true → after ≡ before

-- the same of what was found, which lies in the bytes from the last head on
abbrev pub IsStep : ReaderFacts → List ℕ → ReaderFacts → Option (List ℕ) → Find → Type 0
IsStep old came new left (found.Whole at) =
    (old.over ≡ false) × (new.over ≡ false)
    × (new.all ≡ old.held ++ came) × (new.held ≡ drop at.len new.all) × HasHead new.all at
IsStep old came new left found.Closed = IsReaderClosed old came new left
IsStep old came new left (found.Refused fault) = IsHeadRefused old came new left fault
IsStep old came new left found.Failed = IsCutOff old new

-- a step of the reader, with all that it leaves
pub record StepsReader
    (old : ReaderFacts) (before : ShownStream) (new : ReaderFacts) (after : ShownStream)
    (what : Find) : Type 0 where
  pub came : List ℕ
  pub comes : ComesFrom before.left came after.left
  pub wanted : find.ReadsAsWanted old.held came before after
  pub step : IsStep old came new after.left what
  pub quiet : old.over ≡ true → after ≡ before
  pub cause : HasCause before.read_faults after.read_faults (IsTrue (find.find_failed what))
  pub writing : LeavesWriting before after

-- the parts of a head that is at these places
pub record IsHeadAt (buf : List ℕ) (at : Found) (head : Head) : Type 0 where
  pub method : head.method.now ≡ span_bytes buf at.method
  pub target : head.target.now ≡ span_bytes buf at.target
  pub minor : head.minor ≡ at.minor
  pub close : head.close ≡ at.said.close
  pub has_body : head.has_body ≡ at.said.has_body
  pub hops : head.hops ≡ at.said.hops
