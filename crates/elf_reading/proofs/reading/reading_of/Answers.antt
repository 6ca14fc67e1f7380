-- No ranges of the bytes cover more than may be read.
use Rattle.elf_reading.proofs.ReadLemmas.{small_elf, small_plain}
use Rattle.elf_reading.proofs.reading.reading_of.Goals as goal

pub returns-in_ok-sources-in-Ok : goal.returns-in_ok-sources-in-Ok
returns-in_ok-sources-in-Ok c =
    small_elf c.args.bytes.now c.in-Ok.ident c.in_ok-sources-in-Ok.sources c.requires c.in-Ok.ensures.answer
    (c.in_ok-sources-in-Ok.ensures.sources c.args.bytes.now c.debug_parts.ensures.answer)

pub returns-in-Err : goal.returns-in-Err
returns-in-Err c = small_plain c.args.bytes.now c.in-Err.why c.requires c.in-Err.ensures.answer
