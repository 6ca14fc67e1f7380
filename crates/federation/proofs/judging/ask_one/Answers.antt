use Rattle.federation.proofs.JudgeLemmas.{judges_failed, judges_memory}
use Rattle.federation.proofs.judging.ask_one.Goals as goal

pub returns-in-Failed : goal.returns-in-Failed
returns-in-Failed g c =
    judges_failed (g.L.Link.shows c.args.link.now) (g.L.Link.shows c.ask.new.self) c.args.route.now c.args.question.now c.args.hops
    c.in-Failed.ensures.asks

pub returns-in-OutOfMemory : goal.returns-in-OutOfMemory
returns-in-OutOfMemory g c =
    judges_memory (g.L.Link.shows c.args.link.now) (g.L.Link.shows c.ask.new.self) c.args.route.now c.args.question.now c.args.hops
    c.in-OutOfMemory.ensures.asks
