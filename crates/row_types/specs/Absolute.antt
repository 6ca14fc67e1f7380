-- Absolute texts (POSIX.1-2017, 3.2, "Absolute Pathname"): those that begin with a slash.
use Rattle.std.specs.Prelude.{◌==◌, ℕ, Bool, false, List, [], ◌∷◌}
use Rattle.row_types.specs.declared.limits.TheConstants.{SEPARATOR}

-- whether the text begins with a slash
abbrev pub is_absolute : List ℕ → Bool
is_absolute [] = false
is_absolute (b ∷ _) = b == SEPARATOR
