use Rattle.sqlite_keeper.proofs.sql.run_raise.Goals as goal

-- what the query of one row says
pub returns-clause-raises : goal.returns-clause-raises
returns-clause-raises g c = record { came = _; ran = c.query_row.ensures.row; survives = c.query_row.ensures.survives; outside = c.query_row.ensures.mode }

pub returns-in_err-row-clause-raises : goal.returns-in_err-row-clause-raises
returns-in_err-row-clause-raises g c = record { came = _; ran = c.query_row.ensures.row; survives = c.query_row.ensures.survives; outside = c.query_row.ensures.mode }

pub returns-in_err-get-clause-raises : goal.returns-in_err-get-clause-raises
returns-in_err-get-clause-raises g c = record { came = _; ran = c.query_row.ensures.row; survives = c.query_row.ensures.survives; outside = c.query_row.ensures.mode }
