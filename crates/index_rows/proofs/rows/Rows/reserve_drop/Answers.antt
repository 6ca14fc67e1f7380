-- The name is that of the path's row, and the log has room.
use Rattle.std.proofs.Common.{◌≡◌, ◌≢◌, length, vec_len, rules, arith, sym, ◌∙◌, ap, Some}
use Rattle.row_types.specs.Row.{RowFacts}
use Rattle.row_types.specs.Name.{NameFacts}
use Rattle.index_rows.specs.Rows.{row_at}
use Rattle.index_rows.specs.Slots.{rows_in_slots}
use Rattle.index_rows.specs.declared.rows.TheConstants.{LOG_LIMIT}
use Rattle.index_rows.proofs.KeptLemmas.{drop_ready}
use Rattle.index_rows.proofs.rows.Rows.reserve_drop.Goals as goal

pub returns-clause-holds : goal.returns-clause-holds
returns-clause-holds g c =
    let len_is : length c.self.inside.log.items ≡ vec_len c.self.inside.log = search rules in
    let less : length c.self.inside.log.items ≢ LOG_LIMIT = λ e. c.if-len-eq-LOG_LIMIT.false (c.len.ensures ∙ sym len_is ∙ e) in
    let there : row_at c.args.path.now (rows_in_slots c.self.inside.rows.slots) ≡ Some c.in-Some.row.now = sym c.in-Some.ensures.value in
    drop_ready c.args.path.now c.self.invariant.index less there (c.in_ok-name-in-Some.ensures ∙ ap (λ (r : RowFacts). r.name) c.row.view_is) c.give_up_other.ensures.rows c.reserve.ensures.items

pub returns-clause-ready : goal.returns-clause-ready
returns-clause-ready g c = ap (λ (n : NameFacts). n.path) (c.in_ok-name-in-Some.ensures ∙ ap (λ (r : RowFacts). r.name) c.row.view_is) ∙ c.in-Some.ensures.path

pub invariant_of-self-in-Some : goal.invariant_of-self-in-Some
invariant_of-self-in-Some g c =
    let len_is : length c.self.inside.log.items ≡ vec_len c.self.inside.log = search rules in
    let less : length c.self.inside.log.items ≢ LOG_LIMIT = λ e. c.if-len-eq-LOG_LIMIT.false (c.len.ensures ∙ sym len_is ∙ e) in
    let there : row_at c.args.path.now (rows_in_slots c.self.inside.rows.slots) ≡ Some c.in-Some.row.now = sym c.in-Some.ensures.value in
    record {
      index =
          drop_ready c.args.path.now c.self.invariant.index less there (c.in_ok-name-in-Some.ensures ∙ ap (λ (r : RowFacts). r.name) c.row.view_is) c.give_up_other.ensures.rows c.reserve.ensures.items;
      room = omega (arith, c.in_ok-reserve-in-Some.ensures.ok);
    }
