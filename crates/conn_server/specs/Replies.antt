-- Replies (this project's rule): a row for each reason (RFC 9110, section 15; RFC 6585, section 5).
use Rattle.std.specs.Prelude.{◌≡◌, ℕ, Bool, true, false, List, [], codes, length, Option, Some, None, string_bytes}
use Rattle.file_formats.specs.Table.{IsSectionAnswer}
use Rattle.file_picture.specs.Agrees.{AgreesWithPicture}
use Rattle.http_wire.specs.Reply.{reply_bytes}
use Rattle.http_wire.specs.declared.head.HeadFault.{HeadFault}
use Rattle.http_wire.specs.declared.head.HeadFault.TheVariants as head_fault
use Rattle.http_wire.specs.declared.reply.ReplyHead.{ReplyHead}
use Rattle.webapi_routes.specs.declared.fault.RouteFault.{RouteFault}
use Rattle.webapi_routes.specs.declared.fault.RouteFault.TheVariants as route_fault
use Rattle.answer_check.specs.declared.passed.Passed.{Passed}
use Rattle.answer_check.specs.declared.passed.Passed.TheVariants as passing
use Rattle.answer_core.specs.Local.{LocalFacts, file_found, section_found, source_found}
use Rattle.conn_server.specs.Bodies.{BodyFacts, own_line, found_here, found_upstream, page_text}
use Rattle.conn_server.specs.declared.reason.Reason.{Reason}
use Rattle.conn_server.specs.declared.reason.Reason.TheVariants as reason

-- what a reason makes of its reply: the status, whether the body is told to be a text, and the line that is the body
pub record ReasonRow : Type 0 where
  pub status : ℕ
  pub text : Bool
  pub line : List ℕ

-- the row of these
abbrev pub reason_row : ℕ → Bool → List ℕ → ReasonRow
reason_row status text line = record { status = status; text = text; line = line }

-- the row of each reason; what passed and the counters have no line
abbrev pub row_of : Reason → ReasonRow
row_of reason.Local = reason_row 200 false []
row_of reason.Upstream = reason_row 200 false []
row_of reason.Metrics = reason_row 200 true []
row_of reason.BadHead = reason_row 400 true (codes "bad request\n")
row_of reason.TooLarge = reason_row 431 true (codes "too large\n")
row_of reason.Method = reason_row 405 true (codes "bad method\n")
row_of reason.Body = reason_row 400 true (codes "request body\n")
row_of reason.BadEscape = reason_row 400 true (codes "bad escape\n")
row_of reason.NoRoute = reason_row 404 true (codes "no route\n")
row_of reason.BadId = reason_row 400 true (codes "bad build-id\n")
row_of reason.BadPath = reason_row 400 true (codes "bad path\n")
row_of reason.HopLimit = reason_row 404 true (codes "hop limit\n")
row_of reason.NotFound = reason_row 404 true (codes "not found\n")
row_of reason.UpstreamFault = reason_row 502 true (codes "upstream fault\n")
row_of reason.ReadFault = reason_row 503 true (codes "read fault\n")
row_of reason.OutOfMemory = reason_row 507 true (codes "out of memory\n")

-- the status of a reason
abbrev pub status_of : Reason → ℕ
status_of why = (row_of why).status

-- whether a reply says that a load failed
abbrev pub says_read_fault : Reason → Bool
says_read_fault reason.ReadFault = true
says_read_fault _ = false

-- whether a reply says that a link failed
abbrev pub says_upstream_fault : Reason → Bool
says_upstream_fault reason.UpstreamFault = true
says_upstream_fault _ = false

-- why a target that asks for no route gets its reply
abbrev pub reason_of_route : RouteFault → Reason
reason_of_route route_fault.BadEscape = reason.BadEscape
reason_of_route route_fault.NoRoute = reason.NoRoute
reason_of_route route_fault.BadId = reason.BadId
reason_of_route route_fault.BadPath = reason.BadPath
reason_of_route route_fault.OutOfMemory = reason.OutOfMemory

-- why bytes that are no head get their reply; those that were cut off get none
abbrev pub reason_of_head : HeadFault → Option Reason
reason_of_head (head_fault.Bad len) = Some reason.BadHead
reason_of_head head_fault.TooLong = Some reason.TooLarge
reason_of_head head_fault.TooMany = Some reason.TooLarge
reason_of_head (head_fault.Cut len) = None

-- the bytes of what passed, and the path of its file: a file's agree with what was checked of it, and a section's are the section
-- of each file that does
abbrev pub ShowsPassed : LocalFacts → List ℕ → Option (List ℕ) → Type 0
ShowsPassed (file_found from name path generation) bytes file = AgreesWithPicture bytes from.picture × (file ≡ Some path)
ShowsPassed (section_found from path generation) bytes file =
    ((b : List ℕ) → AgreesWithPicture b from.file.picture → IsSectionAnswer b from.name (Some bytes)) × (file ≡ Some path)
ShowsPassed (source_found source path generation) bytes file = (bytes ≡ source) × (file ≡ Some path)
ShowsPassed _ bytes file = ⊥

-- the bytes that are given of what passed
abbrev pub ShowsGiven : Passed → List ℕ → Type 0
ShowsGiven (passing.File from) bytes = bytes ≡ from.bytes
ShowsGiven (passing.Section from) bytes = IsSectionAnswer from.file.bytes from.name (Some bytes)
ShowsGiven (passing.Source source) bytes = bytes ≡ source.items

-- the bytes of what a reply carries, and the path that it is told to come from: a line of text, the text of a page, or
-- what passed of a link's answer, without one; or what passed here
abbrev pub Shows : Reason → BodyFacts → List ℕ → Option (List ℕ) → Type 0
Shows why own_line bytes file = (bytes ≡ (row_of why).line) × (file ≡ None)
Shows why (found_here answer) bytes file = ShowsPassed answer bytes file
Shows why (found_upstream given) bytes file = ShowsGiven given bytes × (file ≡ None)
Shows why (page_text text) bytes file = (bytes ≡ string_bytes text) × (file ≡ None)

-- the head of a reply with a body of so many bytes
abbrev pub reply_head : Reason → ℕ → Option (List ℕ) → Bool → ReplyHead
reply_head why len file close = record {
  status = status_of why;
  text = (row_of why).text;
  len = len;
  file = file;
  close = close;
}

-- the bytes of a reply
abbrev pub bytes_of : Reason → List ℕ → Option (List ℕ) → Bool → Bool → List ℕ
bytes_of why body file close with_body = reply_bytes (reply_head why (length body) file close) body with_body
