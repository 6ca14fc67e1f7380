-- What a line of words asks was done; doors, links, clock and cache are as they were unless it asks for a server or a search.
use Rattle.std.proofs.Common.{ap, arith}
use Rattle.std.specs.Prelude.{map}
use Rattle.dbgd_commands.specs.Stage.{rows_shown}
use Rattle.dbgd_run.proofs.RunLemmas.{runs_apart}
use Rattle.dbgd_run.proofs.outside.run_line.Goals as goal

pub returns-in-Scan-clause-law : goal.returns-in-Scan-clause-law
returns-in-Scan-clause-law g c = rw c.in-Scan.is c.scan_selected.ensures.runs

pub returns-in-Serve-clause-law : goal.returns-in-Serve-clause-law
returns-in-Serve-clause-law g c =
    let one = (rw c.in-Serve.is at c.requires.fits).one in
    rw c.in-Serve.is (c.serve_selected.ensures.runs _ ((rw c.in-Serve.is at c.requires.enough) (omega (arith, one))).3)

pub returns-in-Trial-clause-law : goal.returns-in-Trial-clause-law
returns-in-Trial-clause-law g c =
    rw c.in-Trial.is
    (record {
      runs = record { says = c.run_trial.ensures.says; hands = c.run_trial.ensures.hands; store = c.run_trial.ensures.store };
      rest = record {
        doors = ap (λ doors. map g.X.D.Door.shows doors.items) c.run_trial.ensures.rest.0;
        links = ap (λ links. rows_shown g.X.L.Link.shows links.items) c.run_trial.ensures.rest.1;
        woke = ap g.X.C.Clock.woke c.run_trial.ensures.rest.2;
        cache = ap g.X.H.Cache.shows c.run_trial.ensures.rest.3;
      };
    })

pub returns-in-Find-clause-law : goal.returns-in-Find-clause-law
returns-in-Find-clause-law g c = rw c.in-Find.is c.run_find.ensures.runs

-- the last arm: any line that waits for nobody
pub returns-in_default-clause-law : goal.returns-in_default-clause-law
returns-in_default-clause-law g c =
    runs_apart _ _ _ _ _ c.run_alone.ensures.law
    (record {
      doors = ap (λ doors. map g.X.D.Door.shows doors.items) c.run_alone.ensures.rest.0;
      links = ap (λ links. rows_shown g.X.L.Link.shows links.items) c.run_alone.ensures.rest.1;
      woke = ap g.X.C.Clock.woke c.run_alone.ensures.rest.2;
      cache = ap g.X.H.Cache.shows c.run_alone.ensures.rest.3;
    })

-- a server's hands are enough by what it needs
pub serve_selected-requires-clause-hands : goal.serve_selected-requires-clause-hands
serve_selected-requires-clause-hands g c = λ κs within.
    let enough = rw c.in-Serve.is at c.requires.enough in
    let fits = rw c.in-Serve.is at c.requires.fits in
    let one = fits.one in
    let most = fits.most in
    let hands = (enough (omega (arith, one))).0 in
    omega (arith, hands, most)

pub serve_selected-requires-clause-doors : goal.serve_selected-requires-clause-doors
serve_selected-requires-clause-doors g c = λ κs within.
    let one = (rw c.in-Serve.is at c.requires.fits).one in
    ((rw c.in-Serve.is at c.requires.enough) (omega (arith, one))).1

pub serve_selected-requires-clause-links : goal.serve_selected-requires-clause-links
serve_selected-requires-clause-links g c = λ κs within.
    let one = (rw c.in-Serve.is at c.requires.fits).one in
    let rows = ((rw c.in-Serve.is at c.requires.enough) (omega (arith, one))).2 in
    omega (arith, rows, c.args.outside.now.links.ok.0)

-- a scan needs a hand
pub scan_selected-requires-clause-hand : goal.scan_selected-requires-clause-hand
scan_selected-requires-clause-hand g c = λ κs within. (rw c.in-Scan.is at c.requires.hand) (omega arith)
