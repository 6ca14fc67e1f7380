-- Each row's name is looked for among the listed names that are left.
use Rattle.std.proofs.Common.{◌≡◌, ℕ, refl, Bool, ◌&&◌, not, List, [], ◌∷◌, ◌++◌, sym, ◌∙◌, ap}
use Rattle.path_scope.specs.Scope.{Scope, is_in_scope, scope_of}
use Rattle.row_types.specs.Name.{NameFacts}
use Rattle.row_types.specs.Row.{RowFacts}
use Rattle.index_rows.specs.Rows.{row_names}
use Rattle.index_state.proofs.ByName.{names_by_path}
use Rattle.index_state.proofs.Merge.{LooksAt, Walks, walk_begins, walk_more}
use Rattle.index_state.proofs.marks.with_marks.Goals as goal

pub loop-row-init : goal.loop-row-init
loop-row-init g c =
    let rows = c.args.rows.now.rows in
    let walk = walk_begins (scope_of c.args.roots.now (g.P.Selection.takes c.args.select.now)) c.names-left.ensures.holds.by_path (names_by_path rows c.rows-row-items.ensures.holds.ascends)
    c.in_ok-current.ensures.items c.names-left.ensures.value (ap (λ (rs : List RowFacts). row_names rs) (c.into_iter-row-iterator.ensures.into_iter_gives ∙ c.rows-row-items.ensures.value)) in record {
      marks = walk.marks;
      unlisted = walk.unlisted;
      changed = walk.changed;
      listed = walk.listed;
      finds = walk.finds;
      left = walk.left_by_path;
      names = walk.by_path;
      same = refl;
    }

pub loop-row-preserved : goal.loop-row-preserved
loop-row-preserved g c =
    let scope : Scope = scope_of c.args.roots.now (g.P.Selection.takes c.args.select.now) in
    let at = c.loop-row.invariant in
    let name : NameFacts = c.row.inside.name in
    let later : List NameFacts = row_names c.next.new.self in
    let steps : c.loop-row.row-iterator ≡ c.in-Some.row.now ∷ c.next.new.self = c.in-Some.ensures.steps in
    let so_far : Walks scope c.args.listing.now (row_names c.args.rows.now.rows) c.loop-row.current.items c.loop-row.seen c.loop-row.left.now (row_names c.loop-row.row-iterator) =
    record { marks = at.marks; unlisted = at.unlisted; changed = at.changed; listed = at.listed; finds = at.finds; left_by_path = at.left; by_path = at.names } in
    let look : LooksAt scope c.loop-row.current.items c.push.new.self.items c.loop-row.seen c.count.new.self c.loop-row.left.now c.pass_to-found.result.1.now name =
    record {
      found = c.pass_to-found.result.0;
      is_listed = c.has_stamp-listed.result;
      mark = c.in_ok-mark.mark;
      stamp = c.pass_to-found.ensures.stamp;
      behind = c.pass_to-found.ensures.rest;
      listed = c.has_stamp-listed.ensures;
      marked = c.in_ok-mark.ensures.value ∙ ap (λ (t : List ℕ → Bool). not c.has_stamp-listed.result && is_in_scope (scope_of c.args.roots.now t) name.path) at.same;
      pushed = c.in_ok-push.ensures.items ∙ ap (λ (n : NameFacts). c.loop-row.current.items ++ (n, c.in_ok-mark.mark) ∷ []) c.in_ok-copy.ensures;
      counted = c.count.ensures;
    } in
    let walk = walk_more c.names-left.ensures.holds.by_path so_far
    (ap (λ (rs : List RowFacts). row_names rs) steps ∙ ap (λ (r : RowFacts). r.name ∷ later) (sym c.row.view_is)) look in record {
      marks = walk.marks;
      unlisted = walk.unlisted;
      changed = walk.changed;
      listed = walk.listed;
      finds = walk.finds;
      left = walk.left_by_path;
      names = walk.by_path;
      same = c.is_to_mark.ensures.same ∙ at.same;
    }

pub returns-clause-names : goal.returns-clause-names
returns-clause-names g c = names_by_path c.args.rows.now.rows c.rows-row-items.ensures.holds.ascends
