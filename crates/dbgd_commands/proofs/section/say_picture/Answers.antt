-- The windows decide the identity, and a file with one has the section's range.
use Rattle.dbgd_commands.proofs.FileLemmas.{section_decides}
use Rattle.dbgd_commands.proofs.section.say_picture.Goals as goal

pub identity_found-requires-clause-decides : goal.identity_found-requires-clause-decides
identity_found-requires-clause-decides g c = section_decides c.args.name.now c.args.picture.now c.requires.decides

pub section_found-requires-clause-known : goal.section_found-requires-clause-known
section_found-requires-clause-known g c = record { identity = c.in-Ok.field-0; reads = c.in-Ok.ensures }
