use Rattle.std.proofs.Common.{◌∙◌, rules, lit<, ◌∷◌, [], get_or, refl, ap, sym}
use Rattle.std.specs.Int.{w32}
use Rattle.byte_read.proofs.NumberLemmas.{le_number, be_number, little_zero, big_zero, three}
use Rattle.file_formats.specs.Numbers.{little, big}
use Rattle.byte_read.proofs.numbers.u24_of.Goals as goal

pub returns-in-Little : goal.returns-in-Little
returns-in-Little c =
    let xs = c.args.bytes in
    let listed = get_or xs 0 0 ∷ get_or xs 1 0 ∷ get_or xs 2 0 ∷ [] in
    rw c.in-Little.is (
    c.from_le_bytes.ensures
    ∙ le_number w32 (get_or xs 0 0 ∷ get_or xs 1 0 ∷ get_or xs 2 0 ∷ 0 ∷ []) refl (lit< tt)
    ∙ little_zero listed ∙ ap little (sym (three xs (search rules)))
    )

pub returns-in-Big : goal.returns-in-Big
returns-in-Big c =
    let xs = c.args.bytes in
    let listed = get_or xs 0 0 ∷ get_or xs 1 0 ∷ get_or xs 2 0 ∷ [] in
    rw c.in-Big.is (
    c.from_be_bytes.ensures ∙ be_number w32 (0 ∷ listed) refl (lit< tt)
    ∙ big_zero listed ∙ ap big (sym (three xs (search rules)))
    )
