use Rattle.std.proofs.Common.{inl, ◌∙◌}
use Rattle.dbgd_commands.proofs.scan_sayings.say_altered.Goals as goal

pub returns-in-Ok : goal.returns-in-Ok
returns-in-Ok g c = inl (rw (c.as_str.ensures.value ∙ c.in-Ok.ensures) at c.say_error.ensures)
