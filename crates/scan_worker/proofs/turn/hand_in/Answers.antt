-- Where memory was refused nothing is handed in.
use Rattle.index_lock.proofs.Later.{later_self}
use Rattle.scan_worker.proofs.turn.hand_in.Goals as goal

pub returns-in-OutOfMemory-clause-later : goal.returns-in-OutOfMemory-clause-later
returns-in-OutOfMemory-clause-later g c = later_self c.args.desk.seat
