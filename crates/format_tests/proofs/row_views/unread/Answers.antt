-- In the open world each picture is one of each name.
use Rattle.file_picture.specs.Agrees.{filled_with_zeros}
use Rattle.file_picture.proofs.AgreeLaws.{filled-agrees}
use Rattle.file_picture.proofs.PassedLaws.{passed-first}
use Rattle.format_tests.proofs.OneByte.{none_read}
use Rattle.format_tests.proofs.row_views.unread.Goals as goal

pub read_view-requires-clause-picture : goal.read_view-requires-clause-picture
read_view-requires-clause-picture g c = record {
  bytes = filled_with_zeros c.new-picture.result;
  known = tt;
  agrees = filled-agrees c.new-picture.result c.size-size.ensures.holds;
}

pub read_view-requires-clause-passed : goal.read_view-requires-clause-passed
read_view-requires-clause-passed g c = passed-first c.new-picture.result

pub read_view-requires-clause-read : goal.read_view-requires-clause-read
read_view-requires-clause-read g c = none_read c.new-picture.result c.args.size c.new-picture.ensures
