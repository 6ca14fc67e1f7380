-- What callers see of a cursor (this project's rule).
use Rattle.std.specs.Prelude.{ℕ, ◌+◌, List, drop}
use Rattle.file_formats.specs.declared.encoding.Order.{Order}

-- the bytes, the order in which they spell numbers, and the place of the next byte
pub record View : Type 0 where
  pub bytes : List ℕ
  pub order : Order
  pub place : ℕ

-- the cursor at the first byte
abbrev pub at_start : List ℕ → Order → View
at_start bytes order = record { bytes = bytes; order = order; place = 0 }

-- the bytes from the cursor's place on
abbrev pub left_of : View → List ℕ
left_of v = drop v.place v.bytes

-- the cursor n bytes further on
abbrev pub passed : View → ℕ → View
passed v n = record v { place = v.place + n }
