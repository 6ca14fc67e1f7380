use Rattle.std.proofs.Common.{sym, ap, subst}
use Rattle.webapi_routes.specs.declared.route.Route.TheVariants.{Debuginfo, Executable}
use Rattle.federation.specs.Replies.{files_of}
use Rattle.find_client.specs.Looks.{LooksFor}
use Rattle.find_client.proofs.LookLemmas.{first_decides, first_look, two_looks}
use Rattle.find_client.proofs.look.look_up.Goals as goal

pub returns-in-Nothing : goal.returns-in-Nothing
returns-in-Nothing g c =
    subst (λ files. LooksFor (g.H.Cache.shows c.args.cache.now) c.args.route.now files (g.H.Cache.shows c.look_at-in-Nothing.new.cache)
    c.look_at-in-Nothing.result) (sym (ap files_of c.in-Section.is))
    (two_looks (Debuginfo c.in-Section.id) (Executable c.in-Section.id) c.in-Nothing.failed (first_look c.in-Nothing.ensures)
    c.look_at-in-Nothing.ensures)

pub returns-in-Section : goal.returns-in-Section
returns-in-Section g c =
    subst (λ files. LooksFor (g.H.Cache.shows c.args.cache.now) c.args.route.now files (g.H.Cache.shows c.look_at.new.cache)
    c.look_at.result) (sym (ap files_of c.in-Section.is))
    (first_decides (Debuginfo c.in-Section.id) (Executable c.in-Section.id) c.look_at.result c.in_default.not-Nothing c.look_at.ensures)
