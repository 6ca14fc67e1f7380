use Rattle.dbgd_commands.proofs.speech.say_plain.Goals as goal

pub returns : goal.returns
returns g c = rw (← c.why_word.ensures) c.say_error.ensures
