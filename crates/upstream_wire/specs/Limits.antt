-- The limits of responses, pinned: code and definitions share the constants (this project's limits).
use Rattle.std.specs.Prelude.{◌≡◌, ◌+◌, ◌*◌}
use Rattle.http_wire.specs.declared.limits.TheConstants.{FIELD_LIMIT, HEAD_LIMIT}
use Rattle.upstream_wire.specs.declared.limits.TheConstants.{BODY_LIMIT, TRAILERS}

-- a body has at most 1 GiB; a head has those of a request; so many fields of three bytes and a line feed fill the trailers
pub record ArePinnedResponseLimits : Type 0 where
  pub body : BODY_LIMIT ≡ 1073741824
  pub longest : HEAD_LIMIT ≡ 16384
  pub most : FIELD_LIMIT ≡ 64
  pub trailers : 3 * TRAILERS + 1 ≡ HEAD_LIMIT
