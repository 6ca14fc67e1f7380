-- Names of sample files (this project's example): each is known by its path and its size.
use Rattle.std.specs.Borrow.{Bor}
use Rattle.std.specs.Prelude.{ℕ, List, ◌++◌, map, pos, codes, decimal, Contains}
use Rattle.row_types.specs.Canon.{IsCanonPath}
use Rattle.row_types.specs.Name.{NameFacts}
use Rattle.row_types.specs.Stamp.{StampFacts}
use Rattle.sample_rows.specs.declared.fault.SampleFault.{SampleFault}
use Rattle.sample_rows.specs.declared.fault.SampleFault.TheVariants.{NotAPath, NotAnId, NotByPath, OutOfMemory}

-- the stamp of a file of this size, which changed at second 100
abbrev pub stamp_of_size : ℕ → StampFacts
stamp_of_size size = record { size = size; secs = pos 100; nanos = 0 }

-- the name of a file of this path and size
abbrev pub sample_name : List ℕ → ℕ → NameFacts
sample_name path size = record { path = path; stamp = stamp_of_size size }

-- the texts of the files' paths
abbrev pub paths_of : List (Bor (List ℕ) × ℕ) → List (List ℕ)
paths_of files = map (λ file. file.0.now) files

-- what follows is closed to proofs, so that no test works it out

-- the texts
unfoldable pub sample_texts : List (Bor (List ℕ)) → List (List ℕ)
sample_texts texts = map (λ text. text.now) texts

-- the names of files of these paths and sizes
unfoldable pub sample_names : List (Bor (List ℕ) × ℕ) → List NameFacts
sample_names files = map (λ file. sample_name file.0.now file.1) files

-- one of the texts is no canonical path
pub record HasNoPath (texts : List (List ℕ)) : Type 0 where
  pub text : List ℕ
  pub there : Contains texts text
  pub refused : ¬ IsCanonPath text

-- why the paths of these texts were not made: one of them is none. Memory may be wanted at any
unfoldable pub RefusesPaths : List (List ℕ) → SampleFault → Type 0
RefusesPaths texts NotAPath = HasNoPath texts
RefusesPaths texts NotAnId = ⊥
RefusesPaths texts NotByPath = ⊥
RefusesPaths texts OutOfMemory = Unit {0}

-- the path and the size of the name, each as it is written
unfoldable pub name_text : NameFacts → List ℕ
name_text name = name.path ++ codes " " ++ decimal name.stamp.size ++ codes ", "
