-- The byte is that of the first version.
use Rattle.std.proofs.Common.{codes, inl, refl}
use Rattle.file_picture.proofs.PassedLaws.{passed-first}
use Rattle.format_tests.proofs.row_views.told.Goals as goal

pub read_view-requires-clause-picture : goal.read_view-requires-clause-picture
read_view-requires-clause-picture g c = record {
  bytes = codes "x";
  known = record {
    placed = c.name_of-name.ensures.path;
    one = inl (record { stamped = c.name_of-name.ensures.stamp; filled = refl });
  };
  agrees = c.requires.agrees;
}

pub read_view-requires-clause-passed : goal.read_view-requires-clause-passed
read_view-requires-clause-passed g c = passed-first c.args.picture.now
