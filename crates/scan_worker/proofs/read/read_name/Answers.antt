-- The opening leads to this alone, or the reads behind it.
use Rattle.std.proofs.Common.{refl}
use Rattle.scan_queue.specs.declared.miss.Seen.TheVariants as seen
use Rattle.tree_trait.specs.Open.{was_opened, was_too_large, open_gone, open_failed, open_no_memory}
use Rattle.scan_worker.specs.declared.read.NameRead.TheVariants.{Altered, Failed, OutOfMemory}
use Rattle.scan_worker.proofs.ReadLemmas.{reads_alone, reads_opened}
use Rattle.scan_worker.proofs.read.read_name.Goals as goal

pub read_same-requires-clause-same : goal.read_same-requires-clause-same
read_same-requires-clause-same g c = λ κs within. c.if-is_other.ensures.same

pub read_same-requires-clause-known : goal.read_same-requires-clause-known
read_same-requires-clause-known g c = λ κs within. (c.in-Opened.ensures.asks.fits.bytes, c.in-Opened.ensures.asks.fits.known)

pub read_same-requires-clause-opened : goal.read_same-requires-clause-opened
read_same-requires-clause-opened g c = λ κs within. c.in-Opened.ensures.name

pub read_large-requires : goal.read_large-requires
read_large-requires g c = c.in-TooLarge.ensures.asks.fits

pub returns-then-is_other : goal.returns-then-is_other
returns-then-is_other g c =
    reads_alone g.T.Tree.told g.W.Truth.version c.args.name.now (was_opened c.in-Opened.stamp) (Altered (seen.File c.in-Opened.stamp))
    c.in-Opened.ensures.asks ((c.if-is_other.ensures.other, refl), refl)

pub returns-else-is_other : goal.returns-else-is_other
returns-else-is_other g c =
    reads_opened g.T.Tree.told g.W.Truth.version c.args.name.now c.read_same.result c.if-is_other.ensures.same
    c.in-Opened.ensures.asks c.read_same.ensures

pub returns-in-TooLarge : goal.returns-in-TooLarge
returns-in-TooLarge g c =
    reads_alone g.T.Tree.told g.W.Truth.version c.args.name.now (was_too_large c.in-TooLarge.stamp) c.read_large.result
    c.in-TooLarge.ensures.asks c.read_large.ensures

pub returns-in-Gone : goal.returns-in-Gone
returns-in-Gone g c =
    reads_alone g.T.Tree.told g.W.Truth.version c.args.name.now open_gone (Altered seen.Gone) c.in-Gone.ensures.asks (refl, refl)

pub returns-in-Failed : goal.returns-in-Failed
returns-in-Failed g c =
    reads_alone g.T.Tree.told g.W.Truth.version c.args.name.now open_failed Failed c.in-Failed.ensures.asks refl

pub returns-in-OutOfMemory : goal.returns-in-OutOfMemory
returns-in-OutOfMemory g c =
    reads_alone g.T.Tree.told g.W.Truth.version c.args.name.now open_no_memory OutOfMemory c.in-OutOfMemory.ensures.asks tt
