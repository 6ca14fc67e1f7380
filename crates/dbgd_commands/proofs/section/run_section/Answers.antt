-- The name is that of the text.
use Rattle.dbgd_commands.proofs.section.run_section.Goals as goal

pub returns : goal.returns
returns g c = rw (← c.as_bytes.ensures.value) c.run_named.ensures
