-- What is listed is what is swapped; in a told world that is nothing.
use Rattle.std.proofs.Common.{◌∙◌, ap, List, length}
use Rattle.file_formats.specs.Numbers.{bytes_at}
use Rattle.tree_trait.specs.Swaps.{SwapFacts, SwapsFacts, bytes_seen}
use Rattle.tree_trait.proofs.swaps.Swaps.read_into.Goals as goal

pub returns-clause-seen : goal.returns-clause-seen
returns-clause-seen g c =
    c.read_newest.ensures.seen
    ∙ ap
    (λ (list : List SwapFacts). bytes_at (bytes_seen (record { reads = c.self.inside.reads; list = list }) c.args.file.now) c.args.at
    (length c.args.room.now))
    c.as_slice.ensures.value
    ∙ ap (λ (s : SwapsFacts). bytes_at (bytes_seen s c.args.file.now) c.args.at (length c.args.room.now)) c.self.view_is

pub returns-clause-bytes : goal.returns-clause-bytes
returns-clause-bytes g c = λ told. c.read_newest.ensures.bytes (c.as_slice.ensures.value ∙ c.self.invariant.none told) told
