-- The heads of requests that are served (this project's limits over the grammar of RFC 9112, sections 2 to 5), and what is
-- said of bytes that are none.
use Rattle.std.specs.Prelude.{◌≡◌, ℕ, ◌<◌, ◌≤◌, ◌==◌, List, Option, length, count_by}
use Rattle.httparse.specs.Grammar.{HasNoRequest, IsRequestHead, MayBecomeRequest, NeverHasRequest, RequestHead, print_request}
use Rattle.httparse.specs.Spans.{RequestOverflows, RequestExceeds}
use Rattle.http_wire.specs.Fields.{closes, has_body, hops}
use Rattle.http_wire.specs.Room.{AreLines}
use Rattle.http_wire.specs.Source.{HasEnded}
use Rattle.http_wire.specs.declared.head.Head.{Head}
use Rattle.http_wire.specs.declared.head.HeadFault.{HeadFault}
use Rattle.http_wire.specs.declared.head.HeadFault.TheVariants.{Bad, Cut, TooLong, TooMany}
use Rattle.http_wire.specs.declared.limits.TheConstants.{FIELD_LIMIT, HEAD_LIMIT}

-- the limits, pinned: code and definitions share the constants
pub record ArePinnedHeadLimits : Type 0 where
  pub longest : HEAD_LIMIT ≡ 16384
  pub most : FIELD_LIMIT ≡ 64

-- a head within the limits
pub record IsServed (h : RequestHead) : Type 0 where
  pub valid : IsRequestHead h
  pub few : length h.fields ≤ FIELD_LIMIT
  pub short : length (print_request h) ≤ HEAD_LIMIT

-- what is told of a head is what it says
pub record TellsHead (head : Head) (h : RequestHead) : Type 0 where
  pub method : head.method.now ≡ h.method
  pub target : head.target.now ≡ h.target
  pub minor : head.minor ≡ h.minor
  pub close : head.close ≡ closes h
  pub has_body : head.has_body ≡ has_body h
  pub hops : head.hops ≡ hops h

-- the bytes begin with more fields than a head has: whatever follows them, no head of so few fields is in front
pub record HasTooMany (bytes : List ℕ) : Type 0 where
  pub none : RequestOverflows FIELD_LIMIT bytes
  pub more : RequestExceeds FIELD_LIMIT bytes
  pub lines : FIELD_LIMIT < count_by (λ b. b == 10) bytes

-- up to their last line feed, bytes can follow that make them a head
pub record IsStillOpen (bytes : List ℕ) : Type 0 where
  pub lines : List ℕ
  pub are : AreLines bytes lines
  pub may : MayBecomeRequest lines

-- up to their last line feed, no bytes can follow that make a head of their front
pub record IsRuledOut (bytes : List ℕ) : Type 0 where
  pub lines : List ℕ
  pub are : AreLines bytes lines
  pub never : NeverHasRequest lines

-- why these bytes, of a source with so much left, are no head
abbrev pub RefusesAsHead : HeadFault → List ℕ → Option (List ℕ) → Type 0
RefusesAsHead (Bad len) bytes left = (len ≡ length bytes) × IsRuledOut bytes
RefusesAsHead TooLong bytes left = (length bytes ≡ HEAD_LIMIT) × HasNoRequest bytes × IsStillOpen bytes
RefusesAsHead TooMany bytes left = HasTooMany bytes
RefusesAsHead (Cut len) bytes left =
    (len ≡ length bytes) × (0 < len) × (len < HEAD_LIMIT) × HasNoRequest bytes × HasEnded left × IsStillOpen bytes
