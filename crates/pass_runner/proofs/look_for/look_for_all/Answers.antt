use Rattle.pass_runner.proofs.Loops.{ends_looking, goes_first, groomed_cause, groomed_goes, groomed_out, groomed_read, groomed_settled, groomed_smaller, groomed_sound, groomed_stand, groomed_under, is_settled, looks_at_all, quiet_cause}
use Rattle.pass_runner.proofs.look_for.look_for_all.Goals as goal

pub loop-task-init : goal.loop-task-init
loop-task-init g c = (goes_first c.requires.sound c.requires.open, c.requires.read, λ stood. stood)

pub look_for-requires-clause-sound : goal.look_for-requires-clause-sound
look_for-requires-clause-sound g c = λ κs within. groomed_sound c.loop-task.invariant.0 c.in-Some.ensures.step

pub look_for-requires-clause-out : goal.look_for-requires-clause-out
look_for-requires-clause-out g c = λ κs within. groomed_out c.in-Some.ensures.step

pub look_for-requires-clause-under : goal.look_for-requires-clause-under
look_for-requires-clause-under g c = λ κs within. groomed_under c.in-Some.ensures.step

pub returns-in-Some-look_for-clause-settles : goal.returns-in-Some-look_for-clause-settles
returns-in-Some-look_for-clause-settles g c =
    groomed_settled c.loop-task.invariant.0 c.in-Some.ensures.step c.in-Some-look_for.ensures

pub returns-in-Some-look_for-clause-ends : goal.returns-in-Some-look_for-clause-ends
returns-in-Some-look_for-clause-ends g c = ends_looking c.args.state.now c.in-Some-look_for.end c.in-Some-look_for.ensures

pub returns-in-Some-look_for-clause-keeper : goal.returns-in-Some-look_for-clause-keeper
returns-in-Some-look_for-clause-keeper g c =
    groomed_cause c.loop-task.invariant.0 c.in-Some.ensures.step c.in-Some-look_for.ensures

pub loop-task-smaller : goal.loop-task-smaller
loop-task-smaller g c = groomed_smaller c.in-Some.ensures.step c.in_default-look_for.ensures.ends

pub loop-task-preserved : goal.loop-task-preserved
loop-task-preserved g c = (
  groomed_goes c.loop-task.invariant.0 c.in-Some.ensures.step c.in_default-look_for.ensures,
  groomed_read c.loop-task.invariant.1 c.in-Some.ensures.step c.in_default-look_for.ensures.ends,
  groomed_stand c.args.state.now c.loop-task.invariant.2 c.in-Some.ensures.step c.in_default-look_for.ensures,
)

pub loop-task-preserved-in_default-look_for : goal.loop-task-preserved-in_default-look_for
loop-task-preserved-in_default-look_for g c = (
  groomed_goes c.loop-task.invariant.0 c.in-Some.ensures.step c.in_default-look_for.ensures,
  groomed_read c.loop-task.invariant.1 c.in-Some.ensures.step c.in_default-look_for.ensures.ends,
  groomed_stand c.args.state.now c.loop-task.invariant.2 c.in-Some.ensures.step c.in_default-look_for.ensures,
)

pub returns-clause-settles : goal.returns-clause-settles
returns-clause-settles g c = looks_at_all c.loop-task.invariant.0 c.in_default.ensures.step

pub returns-clause-ends : goal.returns-clause-ends
returns-clause-ends g c = is_settled c.loop-task.invariant.0 c.loop-task.invariant.1 c.loop-task.invariant.2 c.in_default.ensures.step

pub returns-clause-keeper : goal.returns-clause-keeper
returns-clause-keeper g c = quiet_cause (λ is. cc) (looks_at_all c.loop-task.invariant.0 c.in_default.ensures.step)
