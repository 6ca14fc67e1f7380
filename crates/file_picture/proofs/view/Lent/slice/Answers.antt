use Rattle.std.proofs.Common.{sym, ap}
use Rattle.file_picture.specs.Lent.{seen_of}
use Rattle.file_picture.proofs.WholeLaws.{part_gives, whole_gives}
use Rattle.file_picture.proofs.view.Lent.slice.Goals as goal

pub returns-in-Whole : goal.returns-in-Whole
returns-in-Whole c =
    whole_gives c.in-Whole.bytes.now (seen_of c.args.self.now) c.args.at c.args.len c.part.result
    (ap seen_of (sym c.in-Whole.is)) c.part.ensures

pub returns-in-Part : goal.returns-in-Part
returns-in-Part c =
    part_gives c.in-Part.picture.now (seen_of c.args.self.now) c.requires c.args.at c.args.len c.slice.result
    (ap seen_of (sym c.in-Part.is)) c.slice.ensures
