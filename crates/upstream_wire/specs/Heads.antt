-- Reading the head of a response (this project's rule over the grammar of heads).
use Rattle.std.specs.Prelude.{◌≡◌, ℕ, ◌≤◌, List, ◌++◌, drop, length}
use Rattle.httparse.specs.Grammar.{HasNoResponse, ResponseHead, print_response, status_code}
use Rattle.httparse.specs.Spans.{ResponseOverflows}
use Rattle.http_wire.specs.Stream.{ShownStream}
use Rattle.http_wire.specs.declared.limits.TheConstants.{FIELD_LIMIT}
use Rattle.upstream_wire.specs.Response.{IsReadHead, framing_by}
use Rattle.upstream_wire.specs.Takes.{Takes}
use Rattle.upstream_wire.specs.declared.head.FoundResponse.{FoundResponse}
use Rattle.upstream_wire.specs.declared.head.ResponseLook.{ResponseLook}
use Rattle.upstream_wire.specs.declared.head.ResponseLook.TheVariants.{Bad, Partial, Whole}

-- the bytes begin with no head that is read
abbrev pub HasNoReadHead : List ℕ → Type 0
HasNoReadHead bytes = (h : ResponseHead) (rest : List ℕ) → IsReadHead h → bytes ≡ print_response h ++ rest → ⊥

-- the bytes begin with the head h, which says what was found
pub record CoversResponse (buf : List ℕ) (found : FoundResponse) (h : ResponseHead) : Type 0 where
  pub len : found.len ≤ length buf
  pub reads : buf ≡ print_response h ++ drop found.len buf
  pub status : found.status ≡ status_code h
  pub framing : found.framing ≡ framing_by h

-- the bytes begin with a head that is read and says this
abbrev pub HasReadHead : List ℕ → FoundResponse → Type 0
HasReadHead bytes found = (h : ResponseHead) × IsReadHead h × CoversResponse bytes found h

-- what bytes in front of which a head may stand are: of the heads that bytes which are no such front can begin with, each has
-- too many fields
abbrev pub IsResponseLook : List ℕ → ResponseLook → Type 0
IsResponseLook bytes (Whole found) = HasReadHead bytes found
IsResponseLook bytes Partial = HasNoResponse bytes
IsResponseLook bytes Bad = ResponseOverflows FIELD_LIMIT bytes

-- a head is in front of what is held, and says this
pub record FindsHeadOf (held : List ℕ) (before : ShownStream) (found : FoundResponse) (now : List ℕ) (after : ShownStream)
    : Type 0 where
  pub head : ResponseHead
  pub is : IsReadHead head
  pub takes : Takes held before (print_response head) (drop found.len now) after
  pub inside : found.len ≤ length now
  pub status : found.status ≡ status_code head
  pub framing : found.framing ≡ framing_by head

-- a head was taken, and says this
pub record ReadsHeadOf (held : List ℕ) (before : ShownStream) (found : FoundResponse) (now : List ℕ) (after : ShownStream)
    : Type 0 where
  pub head : ResponseHead
  pub is : IsReadHead head
  pub takes : Takes held before (print_response head) now after
  pub status : found.status ≡ status_code head
  pub framing : found.framing ≡ framing_by head
