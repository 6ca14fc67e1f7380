use Rattle.index_state.specs.Marks.{is_marked}
use Rattle.pass_runner.proofs.Turning.{turns_blind, turns_judged, turns_unseen}
use Rattle.pass_runner.proofs.look_for.look_for.Goals as goal

pub returns-in-Saw : goal.returns-in-Saw
returns-in-Saw g c =
    turns_judged c.show_index.ensures c.requires.sound c.requires.unlisted c.requires.out
    (c.in-Saw.ensures (is_marked c.args.state.now.pass) c.requires.under) c.judge_name.ensures

pub returns-in-Failed : goal.returns-in-Failed
returns-in-Failed g c =
    turns_unseen c.miss.result c.requires.sound c.requires.out
    (c.in-Failed.ensures (is_marked c.args.state.now.pass) c.requires.under) c.miss.ensures

pub returns-in-OutOfMemory : goal.returns-in-OutOfMemory
returns-in-OutOfMemory g c =
    turns_blind c.requires.sound c.requires.out (c.in-OutOfMemory.ensures (is_marked c.args.state.now.pass) c.requires.under)
