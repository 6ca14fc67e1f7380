use Rattle.std.proofs.Common.{◌∙◌, rules, lit<}
use Rattle.std.specs.Int.{w32}
use Rattle.byte_read.proofs.NumberLemmas.{le_number, be_number}
use Rattle.byte_read.proofs.numbers.u32_of.Goals as goal

pub returns-in-Little : goal.returns-in-Little
returns-in-Little c =
    rw c.in-Little.is
    (c.from_le_bytes.ensures ∙ le_number w32 c.args.bytes (search rules) (lit< tt))

pub returns-in-Big : goal.returns-in-Big
returns-in-Big c =
    rw c.in-Big.is (c.from_be_bytes.ensures ∙ be_number w32 c.args.bytes (search rules) (lit< tt))
