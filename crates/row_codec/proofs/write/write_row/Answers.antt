-- The bytes are those of no other row, and the sizes are pinned at each exit.
use Rattle.std.proofs.Common.{refl, rules}
use Rattle.row_codec.specs.Pinned.{ArePinnedSizes}
use Rattle.row_codec.specs.RowBytes.{IsRowBytes, eight_bytes, four_bytes}
use Rattle.row_codec.proofs.OneSpelling.{one_row}
use Rattle.row_codec.proofs.write.write_row.Goals as goal

pub returns-clause-only : goal.returns-clause-only
returns-clause-only c =
    let own : IsRowBytes c.args.row.now c.push_reading.new.bytes.items = search rules in
    λ other spelled. one_row other c.args.row.now c.push_reading.new.bytes.items spelled own

sizes : ArePinnedSizes
unfolding four_bytes eight_bytes
sizes = record { four = λ number. refl; eight = λ number. refl }

pub returns-clause-sizes : goal.returns-clause-sizes
returns-clause-sizes c = sizes

pub returns-in_err-push-clause-sizes : goal.returns-in_err-push-clause-sizes
returns-in_err-push-clause-sizes c = sizes

pub returns-in_err-push_path-clause-sizes : goal.returns-in_err-push_path-clause-sizes
returns-in_err-push_path-clause-sizes c = sizes

pub returns-in_err-push_stamp-clause-sizes : goal.returns-in_err-push_stamp-clause-sizes
returns-in_err-push_stamp-clause-sizes c = sizes

pub returns-in_err-push_reading-clause-sizes : goal.returns-in_err-push_reading-clause-sizes
returns-in_err-push_reading-clause-sizes c = sizes
