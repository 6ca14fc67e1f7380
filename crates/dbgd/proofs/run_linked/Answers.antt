use Rattle.std.proofs.Common.{◌∙◌, arith}
use Rattle.dbgd.proofs.run_linked.Goals as goal

-- the hands, the doors and the rows of links are those that the words need
pub run_over-requires-clause-enough : goal.run_over-requires-clause-enough
run_over-requires-clause-enough g c = λ κs within serve.
    let rows = c.requires.rows in
    (c.requires.hands, c.in_ok-doors.ensures ∙ c.requires.doors, omega (arith, rows, c.args.links.ok.0), c.requires.linked)
