-- The bytes under the path are those of its entry.
use Rattle.std.proofs.Common.{ℕ, Some, ◌∙◌, ap}
use Rattle.std.specs.Prelude.{Vec, option_map}
use Rattle.std.specs.declared.alloc.Global.{Global}
use Rattle.index_keeper.proofs.TreeLemmas.{bytes_found}
use Rattle.index_keeper.proofs.tables.copy_at.Goals as goal

pub returns-in_ok-from_slice-in-Some : goal.returns-in_ok-from_slice-in-Some
returns-in_ok-from_slice-in-Some c =
    ap Some (c.in_ok-from_slice-in-Some.ensures.items ∙ c.as_slice.ensures.value)
    ∙ ap (option_map (λ (bytes : Vec ℕ Global). bytes.items)) c.in-Some.ensures.value
    ∙ bytes_found c.args.path.now c.args.tree.now.entries

pub returns-in-None : goal.returns-in-None
returns-in-None c =
    ap (option_map (λ (bytes : Vec ℕ Global). bytes.items)) c.in-None.ensures.value
    ∙ bytes_found c.args.path.now c.args.tree.now.entries
