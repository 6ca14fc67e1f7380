use Rattle.dbgd_commands.proofs.scan_sayings.say_bad_row.Goals as goal

pub returns : goal.returns
returns g c = rw (← c.kept.view_is) (rw c.as_str.ensures.value at c.say_error.ensures)
