-- The run of a server, of all hands, doors and rows of links.
use Rattle.std.proofs.Common.{◌≡◌, ◌∙◌, List, All, length, sym, subst, arith}
use Rattle.std.proofs.lemmas.List.Elements.{All-take}
use Rattle.std.specs.Global.{Vec}
use Rattle.std.specs.Vec.Iter.{into_iter_items}
use Rattle.federation.specs.Server.{ServerFacts}
use Rattle.dbgd_words.specs.Patterns.{pattern_texts}
use Rattle.dbgd_commands.specs.Endings.{streams}
use Rattle.dbgd_run.specs.Selecting.{selection_of}
use Rattle.dbgd_run.specs.Serving.{serve_stage}
use Rattle.dbgd_run.specs.Workers.{IsFreshShare, links_at}
use Rattle.dbgd_run.proofs.ServeRuns.{front_all_of, runs_serve}
use Rattle.dbgd_run.proofs.serve.serve_line.Goals as goal

-- a row has a link for each server
abbrev IsLinked : {L : Type 0} → List ServerFacts → Vec L → Type 0
IsLinked servers row = length row.items ≡ length servers

-- the scanned folders are the front of all folders
pub returns-clause-runs : goal.returns-clause-runs
returns-clause-runs g c = λ upstream linked.
    let line = c.args.line in
    let made = c.in_ok-book in
    let hired = c.in_ok-crew in
    let rows = links_at hired.crew.workers.all.items in
    let others = into_iter_items hired.rest.other_rows in
    let left = c.serve_store-back in
    let many : c.len-scanned.result ≡ length line.folders.0.items = omega (arith, c.len-scanned.ensures, line.folders.0.ok.0) in
    let chosen : hired.crew.select ≡ selection_of (pattern_texts line.patterns) = hired.ensures.select ∙ (c.in_ok-matching.ensures ∙ c.requires.select) in
    let laid =
    rw (c.as_slice-folders.ensures.value, c.as_str.ensures.value, many, c.in_ok-folders.ensures, front_all_of line.folders.0.items line.folders.1.items)
    at left.ensures.serves in
    let serves =
    rw (chosen, hired.ensures.own, hired.ensures.book, made.ensures.rows, c.in_ok-text.ensures) at laid in
    rw (hired.ensures.hands, ← hired.ensures.doors, hired.ensures.rows, c.dismiss.ensures.hands, c.dismiss.ensures.doors, c.dismiss.ensures.rows)
    (runs_serve _ _ _ _ _ _ others _ _ _ _ _ _
    made.shares.own made.book hired.crew.workers.all.items
    (serve_stage left.result.hands.items (g.X.C.Clock.woke left.new.clock)
    (streams g.X.O.Stream.shows left.new.out left.new.err) left.result.workers.items)
    _ left.result.end
    (omega (arith, hired.ensures.first, c.requires.doors, hired.crew.hands.ok.0))
    (omega (arith, hired.ensures.count.0, c.requires.doors, hired.crew.workers.all.ok.0))
    (omega (arith, left.ensures.hands, hired.ensures.first, c.requires.doors, left.result.hands.ok.0))
    (omega (arith, left.ensures.count, hired.ensures.count.0, c.requires.doors, left.result.workers.ok.0))
    (subst (All (IsFreshShare made.book)) (sym hired.ensures.shares) made.ensures.others) made.ensures.own made.ensures.rows
    (subst (All (IsLinked upstream)) (front_all_of rows others)
    (All-take (IsLinked upstream) (length rows) _ (subst (All (IsLinked upstream)) hired.ensures.rows linked)))
    serves
    (rw c.as_slice.ensures.value at c.say_serve_end-status.ensures))

pub hire-requires-clause-hands : goal.hire-requires-clause-hands
hire-requires-clause-hands g c = omega (arith, c.requires.hands, c.requires.doors)
