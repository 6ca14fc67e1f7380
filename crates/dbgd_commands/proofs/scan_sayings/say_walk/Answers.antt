use Rattle.dbgd_commands.proofs.scan_sayings.say_walk.Goals as goal

pub returns-in-TooManyEntries : goal.returns-in-TooManyEntries
returns-in-TooManyEntries g c = rw c.in-TooManyEntries.is c.say_limit-in-TooManyEntries.ensures

pub returns-in-RootGone : goal.returns-in-RootGone
returns-in-RootGone g c = rw (c.in-RootGone.is, ← c.text.ensures.value) c.say_gone.ensures

pub returns-in-Failed : goal.returns-in-Failed
returns-in-Failed g c = rw c.in-Failed.is c.say_fault.ensures

pub returns-in-TooMany : goal.returns-in-TooMany
returns-in-TooMany g c = rw c.in-TooMany.is c.say_limit.ensures
