-- The path is that of the number in it.
use Rattle.std.proofs.Common.{rules, sym}
use Rattle.elf_forge.proofs.NumberLemmas.{some_path}
use Rattle.elf_forge.proofs.place.number_at.Goals as goal

pub returns-then-is_path_of-clause-value : goal.returns-then-is_path_of-clause-value
returns-then-is_path_of-clause-value c =
    sym (some_path c.args.files c.number_in-k.result c.args.path.now c.requires (search rules) (search rules))
