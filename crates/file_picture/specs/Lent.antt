-- What a view lends from (this project's rule): a whole file, or a picture.
use Rattle.file_picture.specs.declared.view.Lent.{Lent}
use Rattle.file_picture.specs.declared.view.Lent.TheVariants.{Whole, Part}
use Rattle.file_picture.specs.Picture.{PictureFacts}
use Rattle.file_picture.specs.Whole.{whole}

-- the picture that is seen
abbrev pub seen_of : Lent → PictureFacts
seen_of (Whole bytes) = whole bytes.now
seen_of (Part picture) = picture.now
