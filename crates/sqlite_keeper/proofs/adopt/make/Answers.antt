use Rattle.std.proofs.lemmas.Result.{IfOk-weaker}
use Rattle.sqlite_keeper.specs.Begins.{to_kept, to_epoch, to_raise}
use Rattle.sqlite_keeper.specs.Statements.{epoch_table, kept_table}
use Rattle.sqlite_keeper.proofs.OutsideLemmas.{outside_both, was_run}
use Rattle.sqlite_keeper.proofs.TextLemmas.{epoch_begins_none, kept_begins_none}
use Rattle.sqlite_keeper.proofs.adopt.make.Goals as goal

-- the number was raised on the connection that the tables were made on
pub returns-clause-ok : goal.returns-clause-ok
returns-clause-ok g c =
    let kept = was_run g.F.Store kept_table c.args.connection.now c.execute.new.self _ (kept_begins_none _) c.in_ok-execute.ensures.runs c.in_ok-execute.ensures.survives in
    let epoch = was_run g.F.Store epoch_table c.execute.new.self c.execute-2.new.self _ (epoch_begins_none _) c.in_ok-execute-2.ensures.runs c.in_ok-execute-2.ensures.survives in
    IfOk-weaker c.raise_epoch.result _ _ (λ number raises. record {
      first = c.execute.new.self;
      makes_kept = record { count = _; run = kept };
      made = c.execute-2.new.self;
      makes_epoch = record { count = _; run = epoch };
      raised = raises;
    }) c.raise_epoch.ensures.ok

-- all three statements were run
pub returns-clause-front : goal.returns-clause-front
returns-clause-front g c =
    let kept = was_run g.F.Store kept_table c.args.connection.now c.execute.new.self _ (kept_begins_none _) c.in_ok-execute.ensures.runs c.in_ok-execute.ensures.survives in
    let epoch = was_run g.F.Store epoch_table c.execute.new.self c.execute-2.new.self _ (epoch_begins_none _) c.in_ok-execute-2.ensures.runs c.in_ok-execute-2.ensures.survives in
    to_raise c.execute.new.self c.execute-2.new.self (record { count = _; run = kept }) (record { count = _; run = epoch }) c.raise_epoch.ensures.raises

pub returns-clause-outside : goal.returns-clause-outside
returns-clause-outside g c =
    let kept = was_run g.F.Store kept_table c.args.connection.now c.execute.new.self _ (kept_begins_none _) c.in_ok-execute.ensures.runs c.in_ok-execute.ensures.survives in
    let epoch = was_run g.F.Store epoch_table c.execute.new.self c.execute-2.new.self _ (epoch_begins_none _) c.in_ok-execute-2.ensures.runs c.in_ok-execute-2.ensures.survives in
    outside_both g.F.Store c.args.connection.now c.execute-2.new.self c.raise_epoch.new.connection _ c.raise_epoch.ensures.raises.survives
    (outside_both g.F.Store c.args.connection.now c.execute.new.self c.execute-2.new.self _ epoch.survives kept.outside epoch.outside) (λ clean out. c.raise_epoch.ensures.raises.outside out)

-- the first table wasn't made
pub returns-in_err-execute-clause-front : goal.returns-in_err-execute-clause-front
returns-in_err-execute-clause-front g c =
    to_kept _ (was_run g.F.Store kept_table c.args.connection.now c.execute.new.self _ (kept_begins_none _) c.execute.ensures.runs c.execute.ensures.survives)

pub returns-in_err-execute-clause-outside : goal.returns-in_err-execute-clause-outside
returns-in_err-execute-clause-outside g c =
    (was_run g.F.Store kept_table c.args.connection.now c.execute.new.self _ (kept_begins_none _) c.execute.ensures.runs c.execute.ensures.survives).outside

-- the second table wasn't made
pub returns-in_err-execute-2-clause-front : goal.returns-in_err-execute-2-clause-front
returns-in_err-execute-2-clause-front g c =
    let kept = was_run g.F.Store kept_table c.args.connection.now c.execute.new.self _ (kept_begins_none _) c.in_ok-execute.ensures.runs c.in_ok-execute.ensures.survives in
    to_epoch c.execute.new.self (record { count = _; run = kept }) _
    (was_run g.F.Store epoch_table c.execute.new.self c.execute-2.new.self _ (epoch_begins_none _) c.execute-2.ensures.runs c.execute-2.ensures.survives)

pub returns-in_err-execute-2-clause-outside : goal.returns-in_err-execute-2-clause-outside
returns-in_err-execute-2-clause-outside g c =
    let kept = was_run g.F.Store kept_table c.args.connection.now c.execute.new.self _ (kept_begins_none _) c.in_ok-execute.ensures.runs c.in_ok-execute.ensures.survives in
    let epoch = was_run g.F.Store epoch_table c.execute.new.self c.execute-2.new.self _ (epoch_begins_none _) c.execute-2.ensures.runs c.execute-2.ensures.survives in
    outside_both g.F.Store c.args.connection.now c.execute.new.self c.execute-2.new.self _ epoch.survives kept.outside epoch.outside
