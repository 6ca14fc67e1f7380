-- The front is written with the bytes, and what is left are zeros.
use Rattle.std.proofs.lemmas.List.{drop-replicate}
use Rattle.row_types.proofs.build_id.with_zeros.Goals as goal

pub returns : goal.returns
returns c = simp (c.copy_from_slice.ensures.after, drop-replicate)
