-- Stamps, names and rows of the same parts are the same.
use Rattle.std.proofs.Common.{◌≡◌, ℕ, List, refl}
use Rattle.std.specs.Prelude.{ℤ}
use Rattle.row_types.specs.Name.{NameFacts}
use Rattle.row_types.specs.Row.{RowFacts}
use Rattle.row_types.specs.Stamp.{StampFacts}
use Rattle.row_types.specs.declared.reading.Reading.{Reading}

-- a stamp of its parts
abbrev pub stamp_from : ℕ → ℤ → ℕ → StampFacts
stamp_from size secs nanos = record { size = size; secs = secs; nanos = nanos }

-- stamps of the same parts are the same
pub stamps_same : (a b : ℕ) (c d : ℤ) (e f : ℕ) → a ≡ b → c ≡ d → e ≡ f → stamp_from a c e ≡ stamp_from b d f
stamps_same a b c d e f p q r = rw (p, q, r) refl

-- a name of its parts
abbrev pub name_from : List ℕ → StampFacts → NameFacts
name_from path stamp = record { path = path; stamp = stamp }

-- names of the same parts are the same
pub names_same : (a b : List ℕ) (c d : StampFacts) → a ≡ b → c ≡ d → name_from a c ≡ name_from b d
names_same a b c d p q = rw (p, q) refl

-- a row of its parts
abbrev pub row_from : NameFacts → ℕ → Reading → RowFacts
row_from name edition reading = record { name = name; edition = edition; reading = reading }

-- rows of the same parts are the same
pub rows_same : (n m : NameFacts) (e f : ℕ) (r s : Reading) → n ≡ m → e ≡ f → r ≡ s → row_from n e r ≡ row_from m f s
rows_same n m e f r s p q t = rw (p, q, t) refl
