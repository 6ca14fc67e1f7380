use Rattle.std.proofs.Common.{◌∙◌}
use Rattle.std.proofs.lemmas.Bool.{le-ltb}
use Rattle.std.proofs.lemmas.List.{take_rest}
use Rattle.elf_file.proofs.TextLemmas.{text-begins, no_text}
use Rattle.elf_file.proofs.names.Names.begins.Goals as goal

pub returns-then-at-self : goal.returns-then-at-self
returns-then-at-self c =
    let value = rw (take_rest c.self.inside.bytes.now c.args.at) at c.starts_with.ensures.value in
    rw (← c.self.view_is)
    (value ∙ text-begins c.args.prefix.now c.self.invariant c.requires c.if-at-self.true)

pub returns-else-at-self : goal.returns-else-at-self
returns-else-at-self c =
    rw (← c.self.view_is)
    (rw (no_text c.self.invariant c.if-at-self.false) (le-ltb _ _ c.if-at-self.false))
