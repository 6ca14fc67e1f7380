-- In the open world each picture is one of each name.
use Rattle.file_picture.specs.Agrees.{filled_with_zeros}
use Rattle.file_picture.proofs.AgreeLaws.{filled-agrees}
use Rattle.format_tests.proofs.row_views.row_more.Goals as goal

pub read_view-requires-clause-picture : goal.read_view-requires-clause-picture
read_view-requires-clause-picture g c = record {
  bytes = filled_with_zeros c.args.picture.now;
  known = tt;
  agrees = filled-agrees c.args.picture.now c.size-size.ensures.holds;
}

pub read_part-requires-clause-asks : goal.read_part-requires-clause-asks
read_part-requires-clause-asks g c = record {
  gone = c.in-Need.ensures.1.gone;
  among = λ b f. (c.in-Need.ensures.1.among b f).part;
}
