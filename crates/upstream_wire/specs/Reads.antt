-- Reading a whole response (this project's rule).
use Rattle.std.specs.Prelude.{◌≡◌, ℕ, List, Some}
use Rattle.row_types.specs.Faults.{Rose}
use Rattle.http_wire.specs.Stream.{ShownStream}
use Rattle.upstream_wire.specs.Response.{HasNoWholeResponse, IsFramed, IsWholeResponse}
use Rattle.upstream_wire.specs.Takes.{OfAll, Takes}
use Rattle.upstream_wire.specs.declared.fault.ResponseFault.{ResponseFault}
use Rattle.upstream_wire.specs.declared.fault.ResponseFault.TheVariants.{NoResponse, OutOfMemory, ReadFault}
use Rattle.upstream_wire.specs.declared.framing.Framing.{Framing}

-- no body that is framed so is in front
abbrev pub HasNoBody : Framing → List ℕ → Type 0
HasNoBody framing bytes = (body : List ℕ) → ¬ IsFramed framing bytes body

-- a body was taken, and where it is told what was left, it is that of what was held and left
pub record ReadsBody
    (framing : Framing) (held : List ℕ) (before : ShownStream) (body : List ℕ) (after : ShownStream) : Type 0 where
  pub taken : List ℕ
  pub now : List ℕ
  pub takes : Takes held before taken now after
  pub is : OfAll held before (λ all. IsFramed framing all body)

-- a response was taken, and where it is told what was left, it is that of what was held and left
pub record ReadsWhole
    (held : List ℕ) (before : ShownStream) (status : ℕ) (body : List ℕ) (after : ShownStream) : Type 0 where
  pub taken : List ℕ
  pub now : List ℕ
  pub takes : Takes held before taken now after
  pub is : OfAll held before (λ all. IsWholeResponse all status body)

-- where it is told what was left to read, this is so of that
abbrev pub OfLeft : ShownStream → (List ℕ → Type 0) → Type 0
OfLeft before Is = (left : List ℕ) → before.left ≡ Some left → Is left

-- the status and the body are those of the response that was left to read
abbrev pub ReadsResponseOf : ShownStream → ℕ → List ℕ → Type 0
ReadsResponseOf before status body = OfLeft before (λ left. IsWholeResponse left status body)

-- these bytes begin with no other response
abbrev pub IsOnlyResponse : List ℕ → ℕ → List ℕ → Type 0
IsOnlyResponse bytes status body =
    (other : ℕ) (one : List ℕ) → IsWholeResponse bytes other one → (status ≡ other) × (body ≡ one)

-- why no response was read: what was left begins with none, or a read failed
abbrev pub FailsResponse : ResponseFault → ShownStream → ShownStream → Type 0
FailsResponse NoResponse before after = OfLeft before HasNoWholeResponse
FailsResponse ReadFault before after = Rose before.read_faults after.read_faults
FailsResponse OutOfMemory before after = Unit {0}
