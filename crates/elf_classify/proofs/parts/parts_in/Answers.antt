use Rattle.elf_classify.proofs.DebugLemmas.{parts_seen}
use Rattle.elf_classify.proofs.parts.parts_in.Goals as goal

pub returns : goal.returns
returns c =
    parts_seen c.args.file.now _ c.in_ok-part.ensures c.in_ok-part-2.ensures c.in_ok-part-3.ensures c.in_ok-part-4.ensures
    c.in_ok-part-5.ensures c.in_ok-part-6.ensures c.order.ensures
