use Rattle.file_parts.proofs.FoundLemmas.{whole_of}
use Rattle.file_parts.proofs.known.section_found.Goals as goal

pub section_known-requires : goal.section_known-requires
section_known-requires c = whole_of c.args.picture.now c.size-size.ensures.holds c.requires.known c.requires.decides
