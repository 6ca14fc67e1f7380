-- The call is answered by the generated files; after want of memory the tree is as it was.
use Rattle.elf_forge.proofs.TreeLemmas.{asks_forged, stays_refused}
use Rattle.elf_forge.proofs.tree.ForgeTreeTreeOpenWorld.open_file.Goals as goal

pub returns : goal.returns
returns c = record {
  asks = asks_forged _ _ _ c.open_forged.ensures.few c.open_forged.ensures.forged;
  name = c.open_forged.ensures.name;
  memory = stays_refused _ _ _ c.open_forged.ensures.forged;
  forged = c.open_forged.ensures.forged;
  opens = c.open_forged.ensures.opens;
}
