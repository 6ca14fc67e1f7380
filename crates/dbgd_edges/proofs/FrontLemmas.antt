-- A head in front of bytes has a byte at least.
use Rattle.std.proofs.Common.{◌≡◌, ℕ, ◌<◌, ◌++◌, ◌∷◌, List, length, drop, arith}
use Rattle.std.proofs.Common.{length-append}
use Rattle.httparse.specs.Grammar.{RequestHead, print_blank, print_end, print_request, print_section, print_version}
use Rattle.http_wire.specs.Look.{HasHead}
use Rattle.http_wire.specs.declared.look.Found.{Found}
use Rattle.dbgd_edges.specs.Fronts.{HasWhole}

-- the bytes of a head
pub head_has_bytes : (h : RequestHead) → 0 < length (print_request h)
unfolding print_request
head_has_bytes h = grind (arith, length-append)

-- what the reader of heads finds is a head in front
pub whole_of : (bytes : List ℕ) (found : Found) → HasHead bytes found → HasWhole bytes found.len
whole_of bytes found (h, served, covers) =
    let some = head_has_bytes h in
    let reads = covers.reads in
    let within = covers.len in
    record { head = h; served = served; some = grind (arith, length-append); within = within; reads = reads }
