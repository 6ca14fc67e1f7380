use Rattle.file_picture.proofs.WholeLaws.{whole-picture}
use Rattle.file_picture.proofs.view.View.whole.Goals as goal

pub invariant_of-result : goal.invariant_of-result
invariant_of-result c = whole-picture c.args.bytes.now
