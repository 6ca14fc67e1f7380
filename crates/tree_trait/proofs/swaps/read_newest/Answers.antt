-- The newest that stands for the file's bytes, or these.
use Rattle.std.proofs.Common.{◌∙◌, length, arith, Some, None}
use Rattle.tree_trait.proofs.SwapLemmas.{none_swapped, seen_by, swap_fits}
use Rattle.tree_trait.proofs.swaps.read_newest.Goals as goal

pub copy_into-requires : goal.copy_into-requires
copy_into-requires g c =
    let fits = swap_fits c.args.reads c.args.file.now c.args.swaps.now c.in-Some.swap.now c.in-Some.ensures in
    omega (arith, fits, c.is_version.ensures.sized, c.requires)

pub returns-in-Some-clause-seen : goal.returns-in-Some-clause-seen
returns-in-Some-clause-seen g c =
    c.copy_into.ensures.own
    ∙ seen_by c.args.file.now.bytes (Some c.in-Some.swap.now) _ c.args.at (length c.args.room.now) c.in-Some.ensures

pub returns-in-Some-clause-bytes : goal.returns-in-Some-clause-bytes
returns-in-Some-clause-bytes g c = λ none.
    absurd (none_swapped c.args.reads c.args.file.now c.args.swaps.now c.in-Some.swap.now none c.in-Some.ensures)

pub returns-in-None-clause-seen : goal.returns-in-None-clause-seen
returns-in-None-clause-seen g c =
    c.read_into.ensures.own ∙ seen_by c.args.file.now.bytes None _ c.args.at (length c.args.room.now) c.in-None.ensures

pub returns-in-None-clause-bytes : goal.returns-in-None-clause-bytes
returns-in-None-clause-bytes g c = λ none. c.read_into.ensures.bytes
