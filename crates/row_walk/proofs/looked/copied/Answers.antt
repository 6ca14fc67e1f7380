-- The rows behind the place are those that are lent.
use Rattle.std.proofs.Common.{List, sym, ◌∙◌, ap, subst}
use Rattle.std.specs.Prelude.{IfOk}
use Rattle.row_types.specs.Row.{RowFacts}
use Rattle.index_rows.proofs.Lists.{filter_true}
use Rattle.row_walk.specs.Looked.{Copies, rows_behind}
use Rattle.row_walk.specs.declared.place.Place.{Place}
use Rattle.row_walk.proofs.CopyLemmas.{copies_none}
use Rattle.row_walk.proofs.looked.copied.Goals as goal

pub returns-in-Start : goal.returns-in-Start
returns-in-Start g c =
    subst (λ (all : List RowFacts). IfOk c.copy_rows.result (λ looked. Copies all looked))
    (c.rows.ensures.value ∙ sym (filter_true c.args.index.now.rows) ∙ ap (λ (p : Place). rows_behind p c.args.index.now.rows) (sym c.in-Start.is))
    c.copy_rows.ensures

pub returns-in-At : goal.returns-in-At
returns-in-At g c =
    subst (λ (all : List RowFacts). IfOk c.copy_rows-in-At.result (λ looked. Copies all looked))
    (c.rows_after.ensures.value ∙ ap (λ (p : Place). rows_behind p c.args.index.now.rows) (sym c.in-At.is))
    c.copy_rows-in-At.ensures

pub returns-in-End : goal.returns-in-End
returns-in-End g c = copies_none c.args.place.now c.args.index.now.rows c.new.result.items c.in-End.is c.new.ensures.items
