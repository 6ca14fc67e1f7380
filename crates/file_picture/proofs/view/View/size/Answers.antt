use Rattle.std.proofs.Common.{sym, ◌∙◌, ap}
use Rattle.file_picture.specs.Lent.{seen_of}
use Rattle.file_picture.specs.Picture.{PictureFacts}
use Rattle.file_picture.proofs.AgreeLaws.{filled-sized}
use Rattle.file_picture.proofs.WholeLaws.{whole_sized}
use Rattle.file_picture.proofs.view.View.size.Goals as goal

pub returns-in-Whole-clause-value : goal.returns-in-Whole-clause-value
returns-in-Whole-clause-value c = whole_sized c.in-Whole.bytes.now c.args.self.now (ap seen_of (sym c.in-Whole.is) ∙ c.self.view_is)

pub returns-in-Part-clause-value : goal.returns-in-Part-clause-value
returns-in-Part-clause-value c =
    c.size.ensures.value ∙ ap (λ (p : PictureFacts). p.size) (ap seen_of (sym c.in-Part.is) ∙ c.self.view_is)
    ∙ sym (filled-sized c.args.self.now)
