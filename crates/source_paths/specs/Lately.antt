-- Texts that named their paths lately (this crate's bookkeeping, which no public clause cites).
use Rattle.std.specs.Prelude.{◌≡◌, ℕ, List, [], All}
use Rattle.std.specs.BTreeSet.{BTreeSet}
use Rattle.std.specs.Global.{Vec}
use Rattle.row_types.specs.Sources.{Names}
use Rattle.source_paths.specs.Adds.{Has}

-- the set has each path that the text names
abbrev pub IsTextKnown : BTreeSet (List ℕ) → List ℕ → Type 0
IsTextKnown paths text = (path : List ℕ) → Names text path → Has paths path

-- the set has the paths of each text
pub record AreKnown (paths : BTreeSet (List ℕ)) (texts : List (Vec ℕ)) : Type 0 where
  pub all : All (λ text. IsTextKnown paths text.items) texts

-- the text has no bytes
abbrev pub is_empty : Vec ℕ → Type 0
is_empty text = text.items ≡ []
