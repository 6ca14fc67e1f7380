use Rattle.pass_runner.proofs.Loops.{ends_reading, goes_first, is_read, quiet_cause, reads_all, took_cause, took_goes, took_none, took_out, took_settled, took_smaller, took_sound}
use Rattle.pass_runner.proofs.read_new.read_new.Goals as goal

pub loop-name-init : goal.loop-name-init
loop-name-init g c = (goes_first c.requires.sound c.requires.open, λ none. none)

pub read_one-requires-clause-sound : goal.read_one-requires-clause-sound
read_one-requires-clause-sound g c = λ κs within. took_sound c.loop-name.invariant.0 c.in-Some.ensures.step

pub read_one-requires-clause-out : goal.read_one-requires-clause-out
read_one-requires-clause-out g c = λ κs within. took_out c.in-Some.ensures.step

pub returns-in-Some-read_one-clause-settles : goal.returns-in-Some-read_one-clause-settles
returns-in-Some-read_one-clause-settles g c =
    took_settled c.loop-name.invariant.0 c.in-Some.ensures.step c.in-Some-read_one.ensures

pub returns-in-Some-read_one-clause-ends : goal.returns-in-Some-read_one-clause-ends
returns-in-Some-read_one-clause-ends g c = ends_reading c.args.state.now c.in-Some-read_one.end c.in-Some-read_one.ensures

pub returns-in-Some-read_one-clause-keeper : goal.returns-in-Some-read_one-clause-keeper
returns-in-Some-read_one-clause-keeper g c =
    took_cause c.loop-name.invariant.0 c.in-Some.ensures.step c.in-Some-read_one.ensures

pub loop-name-smaller : goal.loop-name-smaller
loop-name-smaller g c = took_smaller c.in-Some.ensures.step c.in_default-read_one.ensures.ends

pub loop-name-preserved : goal.loop-name-preserved
loop-name-preserved g c = (
  took_goes c.loop-name.invariant.0 c.in-Some.ensures.step c.in_default-read_one.ensures,
  took_none c.args.state.now c.loop-name.invariant.1 c.in-Some.ensures.step c.in_default-read_one.ensures,
)

pub loop-name-preserved-in_default-read_one : goal.loop-name-preserved-in_default-read_one
loop-name-preserved-in_default-read_one g c = (
  took_goes c.loop-name.invariant.0 c.in-Some.ensures.step c.in_default-read_one.ensures,
  took_none c.args.state.now c.loop-name.invariant.1 c.in-Some.ensures.step c.in_default-read_one.ensures,
)

pub returns-clause-settles : goal.returns-clause-settles
returns-clause-settles g c = reads_all c.loop-name.invariant.0 c.in_default.ensures.step

pub returns-clause-ends : goal.returns-clause-ends
returns-clause-ends g c = is_read c.loop-name.invariant.0 c.loop-name.invariant.1 c.in_default.ensures.step

pub returns-clause-keeper : goal.returns-clause-keeper
returns-clause-keeper g c = quiet_cause (λ is. cc) (reads_all c.loop-name.invariant.0 c.in_default.ensures.step)
