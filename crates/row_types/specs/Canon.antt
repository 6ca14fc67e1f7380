-- Canonical paths (RFC 3986, 5.2.4, "Remove Dot Segments", with `//` reduced and a last `/` dropped).
use Rattle.std.specs.Prelude.{◌≡◌, ℕ, ◌-◌, ◌≤◌, ◌==◌, ◌||◌, ◌&&◌, Bool, true, false, not, if◌then◌else◌, List, [], ◌∷◌, ◌++◌, length, take, fold, codes}
use Rattle.std.specs.List.{slice_split, list_all}
use Rattle.std.specs.Str.{bytes_eq}
use Rattle.row_types.specs.declared.limits.TheConstants.{SEPARATOR, PATH_LIMIT}

-- the pieces of a text between its slashes, in order
abbrev pub pieces : List ℕ → List (List ℕ)
pieces text = slice_split (λ b. b == SEPARATOR) text

-- the kept pieces, once the next piece has come: an empty one and `.` add nothing, `..` removes the last
abbrev pub keep : List (List ℕ) → List ℕ → List (List ℕ)
keep kept piece =
    if bytes_eq piece [] || bytes_eq piece (codes ".") then kept
    else if bytes_eq piece (codes "..") then take (length kept - 1) kept
    else kept ++ piece ∷ []

-- each piece with a slash before it
abbrev pub joined : List (List ℕ) → List ℕ
joined [] = []
joined (piece ∷ rest) = (SEPARATOR ∷ piece) ++ joined rest

-- the path of the kept pieces; that of no pieces is the root
abbrev pub path_of_kept : List (List ℕ) → List ℕ
path_of_kept [] = SEPARATOR ∷ []
path_of_kept (piece ∷ rest) = joined (piece ∷ rest)

-- the canonical form of a text that begins with a slash
abbrev pub canon : List ℕ → List ℕ
canon text = path_of_kept (fold keep [] (pieces text))

-- whether the text is its own canonical form
abbrev pub is_canonical : List ℕ → Bool
is_canonical text = bytes_eq (canon text) text

-- the text is its own canonical form
abbrev pub IsCanonical : List ℕ → Type 0
IsCanonical text = canon text ≡ text

-- the text is its own canonical form, and no longer than the longest path that is kept
pub record IsCanonPath (text : List ℕ) : Type 0 where
  pub canonical : IsCanonical text
  pub short : length text ≤ PATH_LIMIT

-- whether a piece is kept, and nothing else goes with it
abbrev pub stays : List ℕ → Bool
stays piece = not (bytes_eq piece [] || bytes_eq piece (codes ".") || bytes_eq piece (codes ".."))

-- whether what follows the first slash is nothing, or pieces that all stay
abbrev pub is_plain_tail : List ℕ → Bool
is_plain_tail [] = true
is_plain_tail (b ∷ rest) = list_all stays (pieces (b ∷ rest))

-- whether the text is a slash with such a tail: canonical texts have this form, and no others
abbrev pub has_form : List ℕ → Bool
has_form [] = false
has_form (b ∷ tail) = (b == SEPARATOR) && is_plain_tail tail
