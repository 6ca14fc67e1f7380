-- The rows are all in the tree, and are changed there.
use Rattle.std.proofs.Common.{sym, ◌∙◌, ap, subst}
use Rattle.index_keeper.specs.Tables.{AscendsByPath, EditFacts, put_bytes, removal_of}
use Rattle.index_keeper.specs.Tree.{kept_in}
use Rattle.index_keeper.proofs.CutLemmas.{undone_after}
use Rattle.index_keeper.proofs.TreeLemmas.{edit_done, edit_keeps}
use Rattle.index_keeper.proofs.tables.Tables.edit.Goals as goal

pub invariant_of-self : goal.invariant_of-self
invariant_of-self c = subst AscendsByPath (sym c.settle.ensures.same) c.self.invariant

pub invariant_of-self-in-Continue-branch-2 : goal.invariant_of-self-in-Continue-branch-2
invariant_of-self-in-Continue-branch-2 c =
    edit_keeps (kept_in c.settle.new.tree.entries) (put_bytes c.as_str.result.now c.as_slice.result.now) c.self.invariant c.settle.ensures.same c.in_ok-settle.ensures.ok c.in_ok-put_row-in-Some.ensures.ok

pub invariant_of-self-in-None : goal.invariant_of-self-in-None
invariant_of-self-in-None c =
    edit_keeps (kept_in c.settle.new.tree.entries) (removal_of c.as_str-in-None.result.now) c.self.invariant c.settle.ensures.same c.in_ok-settle.ensures.ok c.remove_row.ensures

pub returns-in_ok-put_row-in-Some-clause-back : goal.returns-in_ok-put_row-in-Some-clause-back
returns-in_ok-put_row-in-Some-clause-back c =
    undone_after (put_bytes c.as_str.result.now c.as_slice.result.now) c.self.invariant c.self.view_is
    (edit_done (kept_in c.settle.new.tree.entries) (put_bytes c.as_str.result.now c.as_slice.result.now) c.settle.ensures.same c.in_ok-settle.ensures.ok c.in_ok-put_row-in-Some.ensures.ok)
    (c.as_str.ensures.value ∙ ap (λ (e : EditFacts). e.path) c.edit.view_is)

pub returns-in-None-clause-back : goal.returns-in-None-clause-back
returns-in-None-clause-back c =
    undone_after (removal_of c.as_str-in-None.result.now) c.self.invariant c.self.view_is
    (edit_done (kept_in c.settle.new.tree.entries) (removal_of c.as_str-in-None.result.now) c.settle.ensures.same c.in_ok-settle.ensures.ok c.remove_row.ensures)
    (c.as_str-in-None.ensures.value ∙ ap (λ (e : EditFacts). e.path) c.edit.view_is)
