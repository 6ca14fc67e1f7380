-- Responses (RFC 9112, sections 4 to 7), as definitions over all the bytes that a connection holds. The limits are this project's.
use Rattle.std.specs.Prelude.{◌≡◌, ℕ, ◌≤◌, List, ◌++◌, length, map}
use Rattle.httparse.specs.Grammar.{IsResponseHead, ResponseHead, print_response, status_code}
use Rattle.httparse.specs.Spans.{name_and_value}
use Rattle.http_wire.specs.declared.limits.TheConstants.{FIELD_LIMIT, HEAD_LIMIT}
use Rattle.upstream_wire.specs.Chunked.{IsChunked}
use Rattle.upstream_wire.specs.Framing.{frame_of}
use Rattle.upstream_wire.specs.declared.framing.Framing.{Framing}
use Rattle.upstream_wire.specs.declared.framing.Framing.TheVariants.{BadLength, Chunked, OtherEncoding, Sized, ToEnd}
use Rattle.upstream_wire.specs.declared.limits.TheConstants.{BODY_LIMIT}

-- a head that is read: of the grammar, with the limits of a request's
pub record IsReadHead (h : ResponseHead) : Type 0 where
  pub valid : IsResponseHead h
  pub few : length h.fields ≤ FIELD_LIMIT
  pub short : length (print_response h) ≤ HEAD_LIMIT

-- how the body behind a head is framed, by its fields
abbrev pub framing_by : ResponseHead → Framing
framing_by h = frame_of (map name_and_value h.fields)

-- what is behind a head is this body, framed so: in chunks, or as long as is stated, and then what isn't read; or all of it.
-- A body behind another transfer encoding, or behind a length that is none, isn't read, nor is one that is too long
abbrev pub IsFramed : Framing → List ℕ → List ℕ → Type 0
IsFramed Chunked behind body = (rest : List ℕ) × IsChunked behind body rest × (length body ≤ BODY_LIMIT)
IsFramed (Sized n) behind body = (rest : List ℕ) × (behind ≡ body ++ rest) × (length body ≡ n)
IsFramed ToEnd behind body = (body ≡ behind) × (length body ≤ BODY_LIMIT)
IsFramed OtherEncoding behind body = ⊥
IsFramed BadLength behind body = ⊥

-- these bytes begin with a response of this status and this body
pub record IsWholeResponse (bytes : List ℕ) (status : ℕ) (body : List ℕ) : Type 0 where
  pub head : ResponseHead
  pub behind : List ℕ
  pub is : IsReadHead head
  pub front : bytes ≡ print_response head ++ behind
  pub says : status ≡ status_code head
  pub framed : IsFramed (framing_by head) behind body

-- these bytes begin with no response
abbrev pub HasNoWholeResponse : List ℕ → Type 0
HasNoWholeResponse bytes = (status : ℕ) (body : List ℕ) → ¬ IsWholeResponse bytes status body
