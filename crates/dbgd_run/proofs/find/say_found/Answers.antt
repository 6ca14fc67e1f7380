-- What is said of each end that isn't done.
use Rattle.std.proofs.Common.{refl}
use Rattle.dbgd_run.proofs.find.say_found.Goals as goal

pub returns-in-NotKept : goal.returns-in-NotKept
returns-in-NotKept g c = rw c.in-NotKept.is (record { ends = c.say_failed.ensures.ends; err = c.say_failed.ensures.err })

pub returns-in-CacheFault : goal.returns-in-CacheFault
returns-in-CacheFault g c =
    rw c.in-CacheFault.is
    (record { ends = c.say_failed-in-CacheFault.ensures.ends; err = c.say_failed-in-CacheFault.ensures.err })

pub returns-in-LinkFault : goal.returns-in-LinkFault
returns-in-LinkFault g c =
    rw c.in-LinkFault.is
    (record { ends = c.say_failed-in-LinkFault.ensures.ends; err = c.say_failed-in-LinkFault.ensures.err })

pub returns-in-WriteFault : goal.returns-in-WriteFault
returns-in-WriteFault g c =
    rw c.in-WriteFault.is
    (record { ends = c.say_failed-in-WriteFault.ensures.ends; err = c.say_failed-in-WriteFault.ensures.err })

pub returns-in-Nothing : goal.returns-in-Nothing
returns-in-Nothing g c = rw c.in-Nothing.is (record { ends = refl; err = c.tell.ensures })

pub returns-in-OutOfMemory : goal.returns-in-OutOfMemory
returns-in-OutOfMemory g c = rw c.in-OutOfMemory.is (record { ends = refl; err = c.tell-in-OutOfMemory.ensures })
