use Rattle.pass_runner.proofs.Loops.{groomed_apart}
use Rattle.pass_runner.proofs.look_for.next_task.Goals as goal

pub returns-clause-unlisted : goal.returns-clause-unlisted
returns-clause-unlisted g c = groomed_apart c.groom_take.result c.show_index.ensures c.groom_take.ensures
