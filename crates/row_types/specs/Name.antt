-- Names (this project's rule): a file is known by its path and its stamp.
use Rattle.std.specs.Prelude.{ℕ, ◌&&◌, Bool, List, Option, option_map}
use Rattle.std.specs.List.{find}
use Rattle.std.specs.Str.{bytes_eq}
use Rattle.row_types.specs.Stamp.{StampFacts, same_stamp}
use Rattle.row_types.specs.declared.name.Name.{Name}

-- a file's path, as a list of bytes, and its stamp
abbrev pub NameFacts : Type 0
NameFacts = Name

-- whether two names are one
abbrev pub same_name : NameFacts → NameFacts → Bool
same_name a b = bytes_eq a.path b.path && same_stamp a.stamp b.stamp

-- the stamp of the first name with the path
abbrev pub stamp_at : List NameFacts → List ℕ → Option StampFacts
stamp_at names path = option_map (λ name. name.stamp) (find (λ name. bytes_eq name.path path) names)
