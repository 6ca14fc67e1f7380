-- The path that a text names.
use Rattle.std.proofs.Common.{◌≡◌, ℕ, true, List, [], ◌∷◌, refl, sym, ◌∙◌, ap}
use Rattle.std.specs.BTreeSet.{BTreeSet, Updates}
use Rattle.std.specs.Cmp.Lexicographic.{slice_cmp}
use Rattle.std.specs.Ordering.{nat_cmp}
use Rattle.std.specs.Str.{IsUtf8}
use Rattle.dwarf_forms.specs.Tells.{IsOnly}
use Rattle.row_types.specs.Canon.{IsCanonPath, path_of_kept}
use Rattle.row_types.specs.Absolute.{is_absolute}
use Rattle.source_paths.specs.Adds.{AddsPaths}
use Rattle.row_types.specs.Sources.{Names}
use Rattle.source_paths.proofs.AddLemmas.{adds-one}

-- a path of pieces begins with a slash
path_absolute : (kept : List (List ℕ)) → is_absolute (path_of_kept kept) ≡ true
path_absolute [] = refl
path_absolute (piece ∷ rest) = refl

-- a text that is its own canonical form names itself
pub names_itself : {text path : List ℕ} → IsCanonPath text → IsUtf8 text → path ≡ text → IsOnly (Names text) path
names_itself {text} h utf8 e = record {
  here = record {
    absolute = ap is_absolute (sym h.canonical) ∙ path_absolute _;
    utf8 = utf8;
    short = h.short;
    says = e ∙ sym h.canonical;
  };
  only = λ other n. n.says ∙ h.canonical ∙ sym e;
}

-- the path that a text names is added
pub adds-named : {text path : List ℕ} {old new : BTreeSet (List ℕ)} → IsOnly (Names text) path
    → Updates (slice_cmp nat_cmp) old new path true → AddsPaths (Names text) old new
adds-named only update = adds-one only.here only.only update
