use Rattle.std.proofs.Common.{◌≡◌, ◌^◌, take}
use Rattle.file_formats.specs.Leb128.{septets}
use Rattle.byte_read.specs.Septets.{sum_with, turned}
use Rattle.byte_read.proofs.leb.sum_of.Given as goal

abbrev pub invariant-loop-byte : goal.invariant-loop-byte
invariant-loop-byte l =
    l.all ≡ sum_with
    (septets (turned l.is_negative (take l.byte-index l.bytes))) (128 ^ l.byte-index)
