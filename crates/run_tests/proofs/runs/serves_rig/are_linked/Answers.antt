-- The row that the loop came to has so many links too, and at the end all have.
use Rattle.std.proofs.Common.{◌≡◌, All, length, subst}
use Rattle.std.proofs.lemmas.List.{take_all}
use Rattle.std.proofs.lemmas.List.Elements.{All-more}
use Rattle.run_tests.proofs.runs.serves_rig.are_linked.Goals as goal

pub loop-row-preserved : goal.loop-row-preserved
loop-row-preserved g c =
    let linked : length c.row-item.result.items ≡ c.args.count = search in
    All-more (λ row. length row.items ≡ c.args.count) c.args.rows.now c.loop-row.row-index c.row-item.result
    c.loop-row-test.true c.loop-row.invariant (subst (λ row. length row.items ≡ c.args.count) c.row-item.is linked)

pub returns : goal.returns
returns g c =
    subst (All (λ row. length row.items ≡ c.args.count))
    (take_all c.loop-row.row-index c.args.rows.now c.loop-row-test.false) c.loop-row.invariant
