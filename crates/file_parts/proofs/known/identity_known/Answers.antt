-- All windows are there, so none is needed.
use Rattle.file_parts.proofs.KnownLemmas.{none_needed}
use Rattle.file_parts.proofs.known.identity_known.Goals as goal

pub unreachable-requires : goal.unreachable-requires
unreachable-requires c = none_needed c.size-size.ensures.holds c.requires c.in-Need.ensures
