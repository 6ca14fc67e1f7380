use Rattle.std.proofs.Common.{◌++◌, take, drop, sym, ap, ◌∙◌, take-add, length-take-le}
use Rattle.http_wire.proofs.room.read_behind.Goals as goal

pub returns-in-Bytes-clause-fills : goal.returns-in-Bytes-clause-fills
returns-in-Bytes-clause-fills g c =
    let new = c.read_more.new.room in
    let n = c.in-Bytes.n in
    let reads = c.in-Bytes.ensures.reads in
    let came = take n (drop c.args.held new) in
    record {
      came = came;
      all = take-add c.args.held n new ∙ ap (λ front. front ++ came) c.in-Bytes.ensures.front;
      comes = reads.gives.2;
      told = reads.told;
      is = (sym (length-take-le n (drop c.args.held new) reads.gives.1), reads.gives.0);
      cause = reads.cause;
      writing = reads.writing;
    }
