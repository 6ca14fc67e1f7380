-- The door was served once, and how that ended is kept; the links that come back are those of the worker.
use Rattle.std.proofs.Common.{length, refl, ap, arith}
use Rattle.std.proofs.lemmas.List.{with_items_is}
use Rattle.dbgd_run.proofs.worker.run_worker.Goals as goal

pub returns-clause-ran : goal.returns-clause-ran
returns-clause-ran g c =
    let row = c.as_mut_slice.ensures in
    let same =
    with_items_is c.args.worker.now.links c.serve_door-seat.new.links
    (omega (arith, c.serve_door-seat.auto.links, ap length row.value, c.args.worker.now.links.ok.0)) in record {
      ran = record {
        end = c.serve_door-seat.result.1;
        epoch = c.args.seat.origin.epoch;
        epoch_after = c.serve_door-seat.result.0.origin.epoch;
        serves = rw (same, ← row.value) c.serve_door-seat.ensures.serves;
      };
      kept = refl;
    }
