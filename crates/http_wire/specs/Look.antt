-- What one look at bytes finds (this project's rule over the grammar of heads).
use Rattle.std.specs.Prelude.{◌≡◌, ℕ, ◌≤◌, List, ◌++◌, drop, length}
use Rattle.httparse.specs.Grammar.{HasNoRequest, MayBecomeRequest, NeverHasRequest, RequestHead, print_request}
use Rattle.httparse.specs.Spans.{IsWithin, span_bytes}
use Rattle.http_wire.specs.Fields.{closes, has_body, hops}
use Rattle.http_wire.specs.Heads.{HasTooMany, IsRuledOut, IsServed, IsStillOpen}
use Rattle.http_wire.specs.declared.look.Found.{Found}
use Rattle.http_wire.specs.declared.look.Look.{Look}
use Rattle.http_wire.specs.declared.look.Look.TheVariants.{Bad, Partial, TooMany, Whole}

-- the bytes begin with the head h, and the places are those of its parts
pub record Covers (buf : List ℕ) (found : Found) (h : RequestHead) : Type 0 where
  pub len : found.len ≤ length buf
  pub reads : buf ≡ print_request h ++ drop found.len buf
  pub method_in : IsWithin (length buf) found.method
  pub target_in : IsWithin (length buf) found.target
  pub method : span_bytes buf found.method ≡ h.method
  pub target : span_bytes buf found.target ≡ h.target
  pub minor : found.minor ≡ h.minor
  pub close : found.said.close ≡ closes h
  pub has_body : found.said.has_body ≡ has_body h
  pub hops : found.said.hops ≡ hops h

-- the bytes begin with a head that is served, at these places
abbrev pub HasHead : List ℕ → Found → Type 0
HasHead bytes found = (h : RequestHead) × IsServed h × Covers bytes found h

-- what is found in the bytes
abbrev pub IsFoundIn : List ℕ → Look → Type 0
IsFoundIn bytes (Whole found) = HasHead bytes found
IsFoundIn bytes Partial = HasNoRequest bytes × MayBecomeRequest bytes
IsFoundIn bytes Bad = NeverHasRequest bytes
IsFoundIn bytes TooMany = HasTooMany bytes

-- what is found in the bytes by their lines alone
abbrev pub IsFoundInLines : List ℕ → Look → Type 0
IsFoundInLines bytes (Whole found) = HasHead bytes found
IsFoundInLines bytes Partial = HasNoRequest bytes × IsStillOpen bytes
IsFoundInLines bytes Bad = IsRuledOut bytes
IsFoundInLines bytes TooMany = HasTooMany bytes
