-- A row is published in one hold.
use Rattle.scan_worker.proofs.turn.publish.Goals as goal

pub returns-clause-tells : goal.returns-clause-tells
returns-clause-tells g c = record {
  answer = c.publish-desk.result.1;
  holds = c.publish-desk.ensures.holds;
  means = c.turn_of.ensures.value;
}

pub returns-clause-later : goal.returns-clause-later
returns-clause-later g c = c.publish-desk.ensures.holds.later

pub returns-clause-shows : goal.returns-clause-shows
returns-clause-shows g c = c.turn_of.ensures.shows c.publish-desk.result.0.seat.seen c.publish-desk.ensures.shows
