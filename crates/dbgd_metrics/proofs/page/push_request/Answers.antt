use Rattle.dbgd_metrics.proofs.page.push_request.Goals as goal

pub returns : goal.returns
returns c = let h = c.push_series.ensures in rw (c.route_text.ensures, c.format-status.ensures.text, c.number_in-requests.ensures) at h
