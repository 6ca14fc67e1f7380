-- The last row of the list goes before all of the tree.
use Rattle.std.proofs.Common.{◌≡◌, length, vec_len, rules, sym, ◌∙◌, ap, subst}
use Rattle.index_keeper.specs.Tables.{AscendsByPath, KeptFacts}
use Rattle.index_keeper.specs.Tree.{kept_in}
use Rattle.index_keeper.proofs.TreeLemmas.{back_ascends, moved}
use Rattle.index_keeper.proofs.tables.settle.Goals as goal

pub put_row-requires : goal.put_row-requires
put_row-requires c = back_ascends c.loop-row.given.items (kept_in c.loop-row.tree.entries) (subst AscendsByPath (sym c.loop-row.invariant) c.requires)

pub loop-row-preserved-in_ok-put_row : goal.loop-row-preserved-in_ok-put_row
loop-row-preserved-in_ok-put_row c =
    let len_is : vec_len c.loop-row.given ≡ length c.loop-row.given.items = search rules in
    moved c.pop-moved.new.self.items (kept_in c.loop-row.tree.entries) c.in-Some.row.now (subst AscendsByPath (sym c.loop-row.invariant) c.requires) len_is c.pop-moved.ensures.items c.pop-moved.ensures.value c.deref.ensures.value c.in-Some.ensures.value
    c.in_ok-put_row.ensures.ok
    (c.as_str.ensures.value ∙ ap (λ (row : KeptFacts). row.path) c.row.view_is)
    (c.as_slice.ensures.value ∙ ap (λ (row : KeptFacts). row.bytes) c.row.view_is)
    ∙ c.loop-row.invariant
