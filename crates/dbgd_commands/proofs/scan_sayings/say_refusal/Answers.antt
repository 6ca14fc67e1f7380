use Rattle.dbgd_commands.proofs.scan_sayings.say_refusal.Goals as goal

pub returns-in-BadRow : goal.returns-in-BadRow
returns-in-BadRow g c = rw c.in-BadRow.is c.say_bad_row.ensures

pub returns-in-LogFull : goal.returns-in-LogFull
returns-in-LogFull g c = rw c.in-LogFull.is c.say_limit.ensures

pub returns-in-KeeperFault : goal.returns-in-KeeperFault
returns-in-KeeperFault g c = rw c.in-KeeperFault.is c.say_fault.ensures
