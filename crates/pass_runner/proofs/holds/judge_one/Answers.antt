-- What a judgement shows.
use Rattle.pass_runner.proofs.HoldLemmas.{stands_shown}
use Rattle.pass_runner.proofs.holds.judge_one.Goals as goal

pub returns-clause-later : goal.returns-clause-later
returns-clause-later g c = c.judge-desk.ensures.holds.later

pub returns-clause-stands : goal.returns-clause-stands
returns-clause-stands g c =
    stands_shown g.K.Keeper.told g.K.Keeper.shows c.args.name.now c.args.seen c.judge-desk.result.1 c.judge-desk.ensures.holds
