-- What a tree shows at a moment, and what some calls leave of it (this project's rule).
use Rattle.std.specs.Prelude.{◌≡◌, ℕ, Bool, List, map, All, Option, IsTrue}
use Rattle.row_types.specs.Canon.{is_canonical}
use Rattle.row_types.specs.Faults.{HasCause}
use Rattle.row_types.specs.Name.{NameFacts}
use Rattle.tree_trait.specs.Found.{Versions}
use Rattle.tree_trait.specs.Heard.{Heard}
use Rattle.tree_trait.specs.Present.{are_apart, are_distinct, IsKnownName}

-- the names that are there, where told; that they never change, and none lies under another; the questions so
-- far with their answers (None: they aren't told); and the count of faults
pub record ShownTree : Type 1 where
  pub present : List NameFacts
  pub Still : Type 0
  pub heard : Option (List Heard)
  pub faults : ℕ

-- what holds of the names that a told tree has
pub record IsPresence (version : Versions) (tree : ShownTree) : Type 0 where
  pub known : All (IsKnownName version) tree.present
  pub canonical : All (λ name. IsTrue (is_canonical name.path)) tree.present
  pub distinct : IsTrue (are_distinct (map (λ name. name.path) tree.present))
  pub apart : tree.Still → IsTrue (are_apart (map (λ name. name.path) tree.present))

-- the names stay as they are, from here on too
pub record StaysStill (before after : ShownTree) : Type 0 where
  pub still : after.Still
  pub same : after.present ≡ before.present

-- what some calls leave of a tree, if one was made where Asked: its count never falls, and they fail only where
-- it rose; what is known of the names of a told tree; and a still tree stays so
pub record HandsOn (told : Bool) (version : Versions) (before after : ShownTree)
    (Asked Fails : Type 0) : Type 0 where
  pub cause : HasCause before.faults after.faults Fails
  pub known : IsTrue told → Asked → IsPresence version after
  pub keeps : IsTrue told → IsPresence version before → IsPresence version after
  pub still : before.Still → StaysStill before after
