use Rattle.elf_reading.proofs.ViewLemmas.{plain_seen}
use Rattle.elf_reading.proofs.reading.reading_within.Goals as goal

pub returns-in-Plain : goal.returns-in-Plain
returns-in-Plain c =
    plain_seen c.args.limit c.args.picture.now c.size-size.ensures.holds c.requires.read c.in-Plain.why c.in-Plain.ensures
