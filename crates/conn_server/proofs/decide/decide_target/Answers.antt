-- What is decided by a target that is none of a page.
use Rattle.std.proofs.Common.{refl, ◌∙◌, ap}
use Rattle.conn_server.specs.Asked.{told_facts}
use Rattle.conn_server.specs.Cases.{no_route}
use Rattle.conn_server.specs.Decided.{plain}
use Rattle.conn_server.specs.declared.reason.Reason.{Reason}
use Rattle.conn_server.specs.declared.report.Asked.TheVariants as asked
use Rattle.conn_server.proofs.CaseLemmas.{no_fault}
use Rattle.conn_server.proofs.CountLemmas.{notes_none}
use Rattle.conn_server.proofs.DecideLemmas.{decides_alone}
use Rattle.conn_server.proofs.decide.decide_target.Goals as goal

pub returns-in-Ok-clause-decided : goal.returns-in-Ok-clause-decided
returns-in-Ok-clause-decided g c =
    c.decide_route.ensures.decided (told_facts c.args.head.now) (record { looked = c.requires.looked; says = c.in-Ok.ensures.says }) refl

pub returns-in-Err-clause-decided : goal.returns-in-Err-clause-decided
returns-in-Err-clause-decided g c =
    decides_alone _
    (c.plain.ensures g.T.Tree.opened ∙ ap (λ (why : Reason). plain (asked.NotRoute c.in-Err.fault) why) c.reason_of_route.ensures)
    refl refl (notes_none _) (no_fault c.in-Err.fault)
    (no_route (told_facts c.args.head.now) c.in-Err.fault refl c.requires.looked c.in-Err.ensures.says)
