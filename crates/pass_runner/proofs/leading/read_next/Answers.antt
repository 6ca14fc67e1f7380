-- What comes of the next listed file.
use Rattle.std.proofs.Common.{refl}
use Rattle.pass_runner.proofs.LeadLemmas.{leads_later}
use Rattle.pass_runner.proofs.OwnMisses.{leads_load, leads_other, leads_unread}
use Rattle.index_lock.proofs.Later.{later_self}
use Rattle.pass_runner.proofs.leading.read_next.Goals as goal

pub returns-in_default : goal.returns-in_default
returns-in_default g c = λ scope. leads_later c.take-desk.ensures.holds.later

pub returns-in-Row : goal.returns-in-Row
returns-in-Row g c = λ scope.
    leads_load c.in-Some.name c.take-desk.ensures.holds.later c.publish-desk.ensures.holds.later c.in-Row.ensures

pub returns-in-Altered : goal.returns-in-Altered
returns-in-Altered g c = λ scope.
    leads_other c.in-Some.name c.take-desk.ensures.holds.later c.miss_own.ensures.later c.in-Altered.ensures c.in-Altered.seen
    c.in-Altered.ensures.leads.0 c.miss_own.ensures.noted

pub returns-in-Failed : goal.returns-in-Failed
returns-in-Failed g c = λ scope.
    leads_unread c.in-Some.name c.take-desk.ensures.holds.later c.miss_own-in-Failed.ensures.later c.in-Failed.ensures refl
    c.miss_own-in-Failed.ensures.noted

pub returns : goal.returns
returns g c = λ scope.
    leads_load c.in-Some.name c.take-desk.ensures.holds.later (later_self _) c.in-OutOfMemory.ensures
