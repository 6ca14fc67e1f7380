-- What is left is tried again: files are read, and then others are looked for.
use Rattle.std.proofs.Common.{List, [], sym, subst}
use Rattle.path_scope.specs.Scope.{scope_of}
use Rattle.scan_queue.specs.declared.miss.Miss.{Miss}
use Rattle.pass_runner.specs.Leading.{LeadsInSettling}
use Rattle.pass_runner.proofs.LeadLemmas.{leads_later, leads_then}
use Rattle.pass_runner.proofs.leading.settle_shared.Goals as goal

pub returns-then-is_err-clause-leads : goal.returns-then-is_err-clause-leads
returns-then-is_err-clause-leads g c =
    subst (λ (l : List Miss). LeadsInSettling g.T.Tree.told g.W.Truth.version (scope_of c.args.roots.now (g.P.Selection.takes c.args.select.now)) c.args.desk.seat (g.T.Tree.shows c.args.hand.now)
    c.retry-desk.result.0.seat (g.T.Tree.shows c.args.hand.now) [] l) (sym c.new-met.ensures.items)
    (leads_later c.retry-desk.ensures.later)

pub returns-clause-leads : goal.returns-clause-leads
returns-clause-leads g c =
    leads_then (leads_then (leads_later c.retry-desk.ensures.later)
    (subst (λ (l : List Miss). LeadsInSettling g.T.Tree.told g.W.Truth.version (scope_of c.args.roots.now (g.P.Selection.takes c.args.select.now)) c.retry-desk.result.0.seat
    (g.T.Tree.shows c.args.hand.now) c.read_left-desk.result.seat (g.T.Tree.shows c.read_left-desk.new.hand) l
    c.read_left-desk.new.met.items) c.new-met.ensures.items (c.read_left-desk.ensures (scope_of c.args.roots.now (g.P.Selection.takes c.args.select.now))))) c.look_left-desk.ensures.leads
