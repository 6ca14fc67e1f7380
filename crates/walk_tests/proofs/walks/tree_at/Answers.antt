use Rattle.std.proofs.Common.{◌≡◌, ℕ, ◌&&◌, Bool, true, List, map, sym, ◌∙◌, ap}
use Rattle.std.specs.List.{list_all}
use Rattle.std.proofs.lemmas.List.Folds.{list_all-map}
use Rattle.row_types.specs.Canon.{is_canonical}
use Rattle.tree_trait.specs.Found.{FoundFacts}
use Rattle.tree_trait.specs.Present.{are_distinct}
use Rattle.tree_trait.specs.Script.{is_stage}
use Rattle.walk_tests.proofs.walks.tree_at.Goals as goal

stage_at : (files : List FoundFacts) (paths : List (List ℕ)) → map (λ file. file.path) files ≡ paths
    → (list_all is_canonical paths && are_distinct paths) ≡ true → is_stage files ≡ true
stage_at files paths e h =
    ap (λ (b : Bool). b && are_distinct (map (λ (f : FoundFacts). f.path) files))
    (sym (list_all-map is_canonical (λ (f : FoundFacts). f.path) files))
    ∙ ap (λ (ps : List (List ℕ)). list_all is_canonical ps && are_distinct ps) e ∙ h

pub tree_of-requires : goal.tree_of-requires
tree_of-requires g c = stage_at c.files_at-files.result.items
    (map (λ path. path.now) c.args.paths.now) c.files_at-files.ensures c.requires
