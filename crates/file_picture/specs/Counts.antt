-- How many bytes of a picture are known, or lie in ranges that are asked for (this project's rule).
use Rattle.std.specs.Prelude.{◌≡◌, ℕ, zero, suc, ◌+◌, ◌<◌, ◌≤◌, ◌&&◌, ◌||◌, not, nat_le, nat_lt, if◌then◌else◌, Bool, true, false, List, Option, Some, None, is_some}
use Rattle.std.specs.List.{list_any}
use Rattle.file_picture.specs.Picture.{PictureFacts, known_byte}
use Rattle.file_picture.specs.declared.view.Need.{Need}

-- 1 where it is so
abbrev pub bit : Bool → ℕ
bit b = if b then 1 else 0

-- how many of the n places from one on are such places
unfoldable pub count_in : (ℕ → Bool) → ℕ → ℕ → ℕ
count_in is from zero = 0
count_in is from (suc n) = bit (is from) + count_in is (from + 1) n

-- the byte at the place is known
abbrev pub is_known : PictureFacts → ℕ → Bool
is_known p place = is_some (known_byte p place)

-- the byte at the place isn't known
abbrev pub is_unknown : PictureFacts → ℕ → Bool
is_unknown p place = not (is_known p place)

-- the place lies in the range
abbrev pub is_inside : ℕ → ℕ → ℕ → Bool
is_inside at len place = nat_le at place && nat_lt place (at + len)

-- the place lies in one of the ranges
abbrev pub is_among : List Need → ℕ → Bool
is_among ranges place = list_any (λ r. is_inside r.at r.len place) ranges

-- the place's byte is known, or lies in the range
abbrev pub is_known_or : PictureFacts → ℕ → ℕ → ℕ → Bool
is_known_or p at len place = is_known p place || is_inside at len place

-- the place's byte is known, or lies in one of the ranges
abbrev pub is_known_or_among : PictureFacts → List Need → ℕ → Bool
is_known_or_among p ranges place = is_known p place || is_among ranges place

-- a run of such places, the first from one on
pub record IsRun (is : ℕ → Bool) (place from end : ℕ) : Type 0 where
  pub above : place ≤ from
  pub some : from < end
  pub before : (q : ℕ) → place ≤ q → q < from → is q ≡ false
  pub inside : (q : ℕ) → from ≤ q → q < end → is q ≡ true

-- there is none, or this is one
abbrev pub IsFirstRun : (ℕ → Bool) → ℕ → Option (ℕ × ℕ) → Type 0
IsFirstRun is place None = (q : ℕ) → place ≤ q → is q ≡ false
IsFirstRun is place (Some run) = IsRun is place run.0 run.1
