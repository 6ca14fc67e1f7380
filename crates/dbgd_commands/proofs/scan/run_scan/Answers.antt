-- What was said of the scan, on sinks that the scan left as they were.
use Rattle.dbgd_commands.proofs.scan.run_scan.Goals as goal

pub returns-clause-runs : goal.returns-clause-runs
returns-clause-runs g c = record {
  end = c.scan_by-end.result;
  scans = c.scan_by-end.ensures.scans;
  others = c.scan_by-end.ensures.others;
  said = rw (c.scan_by-end.ensures.sinks.0, c.scan_by-end.ensures.sinks.1) at c.say_end.ensures;
}
