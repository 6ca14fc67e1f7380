-- The opening gives this alone, or the reads behind it.
use Rattle.std.proofs.Common.{refl}
use Rattle.tree_trait.specs.Open.{was_too_large, open_gone, open_failed, open_no_memory}
use Rattle.file_parts.specs.Wholes.{needs_of}
use Rattle.file_parts.specs.declared.seen.FileSeen.TheVariants as seen
use Rattle.file_parts.proofs.FoundEnds.{opened_then, path_found}
use Rattle.file_parts.proofs.PathLemmas.{path_alone}
use Rattle.file_parts.proofs.found.find_at_path.Goals as goal

pub find_opened-requires-clause-known : goal.find_opened-requires-clause-known
find_opened-requires-clause-known g c = λ κs within. (c.in-Opened.ensures.asks.fits.bytes, c.in-Opened.ensures.asks.fits.known)

pub find_opened-requires-clause-opened : goal.find_opened-requires-clause-opened
find_opened-requires-clause-opened g c = λ κs within. c.in-Opened.ensures.name

pub returns-in-Opened : goal.returns-in-Opened
returns-in-Opened g c = opened_then c.args.part c.find_opened.result c.in-Opened.ensures.asks c.find_opened.ensures

pub returns-in-TooLarge : goal.returns-in-TooLarge
returns-in-TooLarge g c =
    path_found c.args.part (path_alone (needs_of c.args.part) (was_too_large c.in-TooLarge.stamp) (seen.TooLarge c.in-TooLarge.stamp)
    c.in-TooLarge.ensures.asks refl tt tt tt c.in-TooLarge.ensures.asks (λ is. absurd (cc))) tt

pub returns-in-Gone : goal.returns-in-Gone
returns-in-Gone g c =
    path_found c.args.part (path_alone (needs_of c.args.part) open_gone seen.Gone c.in-Gone.ensures.asks refl tt tt tt c.in-Gone.ensures.asks
    (λ is. absurd (cc))) tt

pub returns-in-Failed : goal.returns-in-Failed
returns-in-Failed g c =
    path_found c.args.part (path_alone (needs_of c.args.part) open_failed seen.Failed c.in-Failed.ensures.asks refl tt tt tt c.in-Failed.ensures.asks
    (λ is. refl)) tt

pub returns-in-OutOfMemory : goal.returns-in-OutOfMemory
returns-in-OutOfMemory g c =
    path_found c.args.part (path_alone (needs_of c.args.part) open_no_memory seen.OutOfMemory c.in-OutOfMemory.ensures.asks refl tt tt tt
    c.in-OutOfMemory.ensures.asks (λ is. absurd (cc))) tt
