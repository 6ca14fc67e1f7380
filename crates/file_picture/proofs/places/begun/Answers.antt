-- The pieces that begin by the place stand in front.
use Rattle.std.proofs.Common.{rules, tests}
use Rattle.std.specs.Prelude.{nat_le}
use Rattle.std.proofs.lemmas.List.Sorted.{IsPartitionPoint-from_clause}
use Rattle.file_picture.specs.Picture.{PieceFacts}
use Rattle.file_picture.proofs.ReadLemmas.{begun_from, begun_parted}
use Rattle.file_picture.proofs.places.begun.Goals as goal

pub returns : goal.returns
returns c =
    begun_from c.args.pieces.now c.args.at c.partition_point.result c.partition_point.ensures.bound
    (IsPartitionPoint-from_clause (λ (q : PieceFacts). nat_le q.at c.args.at) c.args.pieces.now c.partition_point.result c.partition_point.ensures.partitioned
    (begun_parted c.args.pieces.now c.args.at c.requires) (λ x r f k. search (rules, tests)))
