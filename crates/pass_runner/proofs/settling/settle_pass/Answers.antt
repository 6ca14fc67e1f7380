use Rattle.pass_runner.proofs.Loops.{cause_later, open_still, settled_after, settled_else}
use Rattle.pass_runner.proofs.Composed.{settles_once, takes_then}
use Rattle.pass_runner.proofs.settling.settle_pass.Goals as goal

pub look_for_all-requires-clause-sound : goal.look_for_all-requires-clause-sound
look_for_all-requires-clause-sound g c = λ κs within. c.in-Empty.ensures.ends.sound

pub look_for_all-requires-clause-open : goal.look_for_all-requires-clause-open
look_for_all-requires-clause-open g c = λ κs within. open_still c.in-Empty.ensures.settles.does

pub look_for_all-requires-clause-read : goal.look_for_all-requires-clause-read
look_for_all-requires-clause-read g c = λ κs within. c.in-Empty.ensures.ends.todo

pub returns-in-Empty-clause-settles : goal.returns-in-Empty-clause-settles
returns-in-Empty-clause-settles g c =
    settles_once c.show_index.ensures (takes_then c.in-Empty.ensures.settles c.look_for_all.ensures.settles)

pub returns-in-Empty-clause-ends : goal.returns-in-Empty-clause-ends
returns-in-Empty-clause-ends g c = settled_after c.look_for_all.new.state c.look_for_all.result c.in-Empty.ensures.ends c.look_for_all.ensures.ends

pub returns-in-Empty-clause-keeper : goal.returns-in-Empty-clause-keeper
returns-in-Empty-clause-keeper g c = cause_later c.in-Empty.ensures.settles.does.on.keeper (λ is. is) c.look_for_all.ensures.keeper

pub returns-in_default-clause-settles : goal.returns-in_default-clause-settles
returns-in_default-clause-settles g c = settles_once c.show_index.ensures c.read_new.ensures.settles

pub returns-in_default-clause-ends : goal.returns-in_default-clause-ends
returns-in_default-clause-ends g c = settled_else c.args.state.now c.read_new.new.state c.read_new.result c.in_default.not-Empty c.read_new.ensures.ends
