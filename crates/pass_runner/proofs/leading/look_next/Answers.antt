-- What comes of the next row that is no longer listed.
use Rattle.pass_runner.proofs.LeadLemmas.{leads_later}
use Rattle.pass_runner.proofs.OwnMisses.{leads_blind, leads_judged, leads_wanting}
use Rattle.std.proofs.lemmas.Bool.{OnFalse_at}
use Rattle.index_lock.proofs.Later.{later_self}
use Rattle.pass_runner.proofs.leading.look_next.Goals as goal

pub returns-in_default-clause-leads : goal.returns-in_default-clause-leads
returns-in_default-clause-leads g c = leads_later c.groom_take-desk.ensures.later

pub returns-then-is_elsewhere-clause-leads : goal.returns-then-is_elsewhere-clause-leads
returns-then-is_elsewhere-clause-leads g c = leads_later c.groom_take-desk.ensures.later

pub returns-in-Saw-clause-leads : goal.returns-in-Saw-clause-leads
returns-in-Saw-clause-leads g c =
    leads_judged c.judge_own.result.0.seat g.T.Tree.shows c.args.hand.now c.look.new.hand c.in-Some.task.under
    c.in-Some.task.name (OnFalse_at c.if-is_elsewhere.false c.is_elsewhere.ensures.own) c.groom_take-desk.ensures.later c.in-Saw.seen c.in-Saw.ensures.under c.in-Saw.ensures.apart
    c.in-Saw.ensures.unasked c.judge_own.ensures.later c.judge_own.ensures.noted

pub returns-in-Failed-clause-leads : goal.returns-in-Failed-clause-leads
returns-in-Failed-clause-leads g c =
    leads_blind c.miss_own.result.0.seat g.T.Tree.shows c.args.hand.now c.look.new.hand c.in-Some.task.under
    c.in-Some.task.name (OnFalse_at c.if-is_elsewhere.false c.is_elsewhere.ensures.own) c.groom_take-desk.ensures.later c.in-Failed.ensures.under c.in-Failed.ensures.apart
    c.in-Failed.ensures.unasked c.miss_own.ensures.later c.miss_own.ensures.noted

pub returns-clause-leads : goal.returns-clause-leads
returns-clause-leads g c =
    leads_wanting c.groom_take-desk.result.0.seat g.T.Tree.shows c.args.hand.now c.look.new.hand c.in-Some.task.under
    c.in-Some.task.name (OnFalse_at c.if-is_elsewhere.false c.is_elsewhere.ensures.own) c.groom_take-desk.ensures.later c.in-OutOfMemory.ensures.under c.in-OutOfMemory.ensures.apart
    c.in-OutOfMemory.ensures.unasked (later_self _)
