use Rattle.federation.proofs.MemLinkLemmas.{asks_by}
use Rattle.federation.proofs.mem_link.MemLinkLink.ask.Goals as goal

pub returns-clause-asks : goal.returns-clause-asks
returns-clause-asks g c =
    asks_by c.args.self.now c.answer_to.new.self c.args.route.now c.args.hops c.answer_to.result c.answer_to.ensures.answers
    c.answer_to.ensures.later
