use Rattle.byte_read.proofs.LebLemmas.{sum_more, turned_none}
use Rattle.byte_read.proofs.leb.sum_of.Goals as goal

pub loop-byte-init : goal.loop-byte-init
loop-byte-init c = rw (turned_none c.args.is_negative) c.new-all.ensures

pub loop-byte-preserved : goal.loop-byte-preserved
loop-byte-preserved c =
    let adds = rw c.digit.ensures at c.add.ensures in
    let bytes = c.args.bytes.now in
    sum_more c.args.is_negative bytes _ c.loop-byte-test.true c.loop-byte.invariant adds
