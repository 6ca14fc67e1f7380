-- What bytes are of a head, to the reader of heads (this project's rule over the grammar of heads).
use Rattle.std.specs.Prelude.{◌≡◌, ℕ, ◌<◌, ◌≤◌, ◌⊎◌, List, ◌++◌, drop, length}
use Rattle.httparse.specs.Grammar.{HasNoRequest, MayBecomeRequest, NeverHasRequest, RequestHead, print_request}
use Rattle.http_wire.specs.Heads.{HasTooMany, IsServed}
use Rattle.dbgd_edges.specs.declared.front.Front.{Front}
use Rattle.dbgd_edges.specs.declared.front.Front.TheVariants.{Whole, Begun, Bad}

-- a head that is served is in front, and has so many bytes
pub record HasWhole (bytes : List ℕ) (len : ℕ) : Type 0 where
  pub head : RequestHead
  pub served : IsServed head
  pub some : 0 < len
  pub within : len ≤ length bytes
  pub reads : bytes ≡ print_request head ++ drop len bytes

-- what the bytes are
abbrev pub IsFront : List ℕ → Front → Type 0
IsFront bytes (Whole len) = HasWhole bytes len
IsFront bytes Begun = HasNoRequest bytes × MayBecomeRequest bytes
IsFront bytes Bad = NeverHasRequest bytes ⊎ HasTooMany bytes
