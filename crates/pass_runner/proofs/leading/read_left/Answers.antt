-- One name after the other.
use Rattle.std.proofs.Common.{[], true}
use Rattle.path_scope.specs.Scope.{scope_of}
use Rattle.index_lock.proofs.Later.{later_self, later_trans}
use Rattle.pass_runner.proofs.LeadLemmas.{leads_none, leads_then}
use Rattle.pass_runner.proofs.leading.read_left.Goals as goal

pub loop-init : goal.loop-init
loop-init g c = (later_self _, λ scope. leads_none)

pub loop-preserved : goal.loop-preserved
loop-preserved g c = (
  later_trans c.loop.invariant.0 (c.read_next-desk.ensures (scope_of [] (λ path. true))).later,
  λ scope. leads_then (c.loop.invariant.1 scope) (c.read_next-desk.ensures scope),
)

pub returns-then-not-goes_on : goal.returns-then-not-goes_on
returns-then-not-goes_on g c = λ scope. leads_then (c.loop.invariant.1 scope) (c.read_next-desk.ensures scope)
