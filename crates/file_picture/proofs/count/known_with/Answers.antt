use Rattle.std.proofs.Common.{arith}
use Rattle.file_picture.proofs.CountLemmas.{fits_size}
use Rattle.file_picture.proofs.count.known_with.Goals as goal

pub overflow_add-result : goal.overflow_add-result
overflow_add-result c =
    let most = fits_size c.args.picture.now c.args.at c.args.len c.size-size.ensures.holds c.requires in
    omega (arith, most, c.bytes.ensures.value, c.unknown_in.ensures.value, c.size-size.ensures.value)
