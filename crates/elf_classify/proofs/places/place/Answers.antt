-- The section was found, or there is none.
use Rattle.std.proofs.Common.{refl}
use Rattle.elf_classify.proofs.DebugPlaceLemmas.{name_gone, name_there}
use Rattle.elf_classify.proofs.places.place.Goals as goal

pub returns-in-Some : goal.returns-in-Some
returns-in-Some c = name_there c.args.file.now c.args.name.now c.in-Some.at c.knows.ensures c.in-Some.ensures.found

pub returns-in-None : goal.returns-in-None
returns-in-None c = name_gone c.args.file.now c.args.name.now _ refl c.knows.ensures c.in-None.ensures.none
