-- The picture is the one that was read of the file.
use Rattle.std.proofs.Common.{sym, ◌∙◌, ap, subst}
use Rattle.file_formats.specs.Windows.{IsSomeWindow}
use Rattle.file_parts.specs.Wholes.{IsThereWhole}
use Rattle.file_picture.specs.Agrees.{AgreesWithPicture}
use Rattle.file_picture.specs.Picture.{PictureFacts}
use Rattle.answer_check.specs.Checked.{checked}
use Rattle.answer_core.proofs.fitting.certified.Goals as goal

pub certified_picture-requires : goal.certified_picture-requires
certified_picture-requires g c = subst (IsThereWhole IsSomeWindow) (sym c.into_file-file.ensures.picture) c.requires

pub returns-in-Some-clause-some : goal.returns-in-Some-clause-some
returns-in-Some-clause-some g c =
    let same = c.into_file-file.ensures.picture in
    record {
      is = c.in-Some.ensures.some.is ∙ ap (λ (p : PictureFacts). checked c.args.kind c.args.id.now p) same;
      same = c.into_file-file.ensures.file;
      certified = λ b f. c.in-Some.ensures.some.certified b (subst (AgreesWithPicture b) (sym same) f);
    }

pub returns-in-None-clause-none : goal.returns-in-None-clause-none
returns-in-None-clause-none g c = λ b f.
    c.in-None.ensures.none b (subst (AgreesWithPicture b) (sym c.into_file-file.ensures.picture) f)
