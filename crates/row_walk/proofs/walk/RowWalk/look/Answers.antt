-- The walk is one of the log that it is lent, and goes on.
use Rattle.std.proofs.Common.{List, ◌+◌, length, take, drop, ◌∙◌, ap, subst}
use Rattle.std.specs.Prelude.{IfOk}
use Rattle.index_rows.specs.declared.change.Change.{Change}
use Rattle.row_walk.specs.Looked.{Copies, looks_of, rows_behind}
use Rattle.row_walk.specs.Walk.{WalkFacts}
use Rattle.row_walk.specs.declared.looked.TheConstants.{MOST_CHANGES}
use Rattle.row_walk.specs.declared.place.Place.{Place}
use Rattle.row_walk.proofs.LookLemmas.{heard_more, saw_ok}
use Rattle.row_walk.proofs.StepLemmas.{rows_held}
use Rattle.row_walk.proofs.walk.RowWalk.look.Goals as goal

pub returns-then-is_empty-clause-walk : goal.returns-then-is_empty-clause-walk
returns-then-is_empty-clause-walk g c = λ keeps before more w.
    saw_ok keeps before c.args.index.now c.args.self.now (rows_held c.args.index.now c.changes_after-changes.ensures.holds) g.W.Truth.one_row more w c.copied.result
    (subst (λ (p : Place). IfOk c.copied.result (Copies (rows_behind p c.args.index.now.rows))) (ap (λ (f : WalkFacts). f.place) c.self.view_is) c.copied.ensures)

pub returns-clause-walk : goal.returns-clause-walk
returns-clause-walk g c = λ keeps before more w.
    heard_more keeps before c.args.index.now c.args.self.now (rows_held c.args.index.now c.changes_after-changes.ensures.holds) g.W.Truth.one_row more w c.in_ok-looks.looks.items (c.self.inside.heard + length c.first-next.result.now)
    (c.in_ok-looks.ensures
    ∙ ap (looks_of c.self.inside.place c.args.index.now.rows) (c.first-next.ensures ∙ ap (λ (l : List Change). take MOST_CHANGES l) c.changes_after-changes.ensures.value)
    ∙ ap (λ (f : WalkFacts). looks_of f.place c.args.index.now.rows (take MOST_CHANGES (drop f.heard c.args.index.now.log))) c.self.view_is)
    (ap (λ (l : List Change). c.self.inside.heard + length l) (c.first-next.ensures ∙ ap (λ (l : List Change). take MOST_CHANGES l) c.changes_after-changes.ensures.value)
    ∙ ap (λ (f : WalkFacts). f.heard + length (take MOST_CHANGES (drop f.heard c.args.index.now.log))) c.self.view_is)
