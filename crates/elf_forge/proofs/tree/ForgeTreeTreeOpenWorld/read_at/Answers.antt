-- The read fills the room, and is listed or not.
use Rattle.std.proofs.Common.{refl}
use Rattle.elf_forge.proofs.TreeLemmas.{reads_forged}
use Rattle.elf_forge.proofs.tree.ForgeTreeTreeOpenWorld.read_at.Goals as goal

pub returns-clause-asks : goal.returns-clause-asks
returns-clause-asks c = reads_forged _ _ _ c.keep_read.ensures.few refl c.keep_read.ensures.forged
