-- The stamp is that of the row that was found.
use Rattle.std.proofs.Common.{Some, sym, ◌∙◌, ap}
use Rattle.std.specs.Option.{option_map}
use Rattle.row_types.specs.Row.{RowFacts}
use Rattle.index_state.proofs.ByName.{stamp_of_row}
use Rattle.pass_runner.proofs.last_hold.row_stamp.Goals as goal

pub returns-in-Some : goal.returns-in-Some
returns-in-Some g c =
    ap (λ (r : RowFacts). Some r.name.stamp) c.row.view_is
    ∙ ap (option_map (λ (r : RowFacts). r.name.stamp)) c.in-Some.ensures.value
    ∙ sym (stamp_of_row c.args.path.now c.args.state.now.rows)

pub returns-in-None : goal.returns-in-None
returns-in-None g c =
    ap (option_map (λ (r : RowFacts). r.name.stamp)) c.in-None.ensures.value
    ∙ sym (stamp_of_row c.args.path.now c.args.state.now.rows)
