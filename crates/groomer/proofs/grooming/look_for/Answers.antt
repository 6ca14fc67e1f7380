-- What comes of a look.
use Rattle.std.proofs.Common.{refl, ap}
use Rattle.groomer.specs.declared.report.Tally.{Tally}
use Rattle.groomer.proofs.GroomLemmas.{grooms_by}
use Rattle.groomer.proofs.HandLemmas.{looks_blind, looks_failed, looks_saw}
use Rattle.index_lock.proofs.Later.{later_self}
use Rattle.groomer.proofs.grooming.look_for.Goals as goal

pub returns-in-Saw-clause-grooms : goal.returns-in-Saw-clause-grooms
returns-in-Saw-clause-grooms g c = record {
  later = c.judge.ensures.later;
  dropped = c.judge.ensures.dropped;
  hand =
      looks_saw g.T.Tree.shows c.args.hand.now c.look.new.hand c.args.task.now.under c.args.task.now.name c.in-Saw.seen
      c.in-Saw.ensures.under c.in-Saw.ensures.apart c.in-Saw.ensures.unasked c.judge.ensures.least c.judge.ensures.most;
}

pub returns-in-Failed-clause-grooms : goal.returns-in-Failed-clause-grooms
returns-in-Failed-clause-grooms g c =
    grooms_by c.miss-desk.ensures.later (ap (λ (t : Tally). t.dropped) c.add_failed.ensures)
    (looks_failed g.T.Tree.shows c.args.hand.now c.look.new.hand c.args.task.now.under c.args.task.now.name
    c.in-Failed.ensures.under c.in-Failed.ensures.apart (ap (λ (t : Tally). t.missed) c.add_failed.ensures))

pub returns-in-OutOfMemory-clause-grooms : goal.returns-in-OutOfMemory-clause-grooms
returns-in-OutOfMemory-clause-grooms g c =
    grooms_by (later_self _) refl
    (looks_blind g.T.Tree.shows c.args.hand.now c.look.new.hand c.args.task.now.under c.args.task.now.name
    c.in-OutOfMemory.ensures.under c.in-OutOfMemory.ensures.apart)
