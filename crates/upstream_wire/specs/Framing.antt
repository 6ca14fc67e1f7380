-- How a response's body is framed (RFC 9112, sections 6.1 to 6.3). That all fields are judged, and which transfer encodings
-- and lengths are read, is this project's rule.
use Rattle.std.specs.Prelude.{ℕ, ◌&&◌, Bool, nat_le, nat_lt, List, [], ◌∷◌, codes, filter, map, length, Option, Some, None, if◌then◌else◌}
use Rattle.std.specs.Char.{is_ascii_digit}
use Rattle.std.specs.List.{list_all}
use Rattle.std.specs.Str.{bytes_eq, str_eq_ignore_ascii_case}
use Rattle.std.specs.Str.Parse.{digits_value}
use Rattle.http_wire.specs.Fields.{Pair, has_name}
use Rattle.upstream_wire.specs.declared.framing.Framing.{Framing}
use Rattle.upstream_wire.specs.declared.framing.Framing.TheVariants.{BadLength, Chunked, OtherEncoding, Sized, ToEnd}
use Rattle.upstream_wire.specs.declared.limits.TheConstants.{BODY_LIMIT}

-- the values of the fields of this name
abbrev pub values_of : List ℕ → List Pair → List (List ℕ)
values_of name fields = map (λ f. f.1) (filter (has_name name) fields)

-- whether a text is decimal digits, one at least
abbrev pub is_digits : List ℕ → Bool
is_digits value = nat_lt 0 (length value) && list_all is_ascii_digit value

-- a length that is read: decimal digits, of a number that a body may have
abbrev pub length_of : List ℕ → Option ℕ
length_of value =
    if is_digits value && nat_le (digits_value 10 value) BODY_LIMIT then Some (digits_value 10 value) else None

-- how a body of this length is framed
abbrev pub by_length : Option ℕ → Framing
by_length (Some n) = Sized n
by_length None = BadLength

-- by the values of Content-Length: each is the same bytes, and a length; without one by the end
abbrev pub by_lengths : List (List ℕ) → Framing
by_lengths [] = ToEnd
by_lengths (l ∷ ls) = if list_all (bytes_eq l) (l ∷ ls) then by_length (length_of l) else BadLength

-- in chunks, unless a length beside them is none
abbrev pub in_chunks : Framing → Framing
in_chunks BadLength = BadLength
in_chunks _ = Chunked

-- by the values of Transfer-Encoding: each is `chunked`, in any case
abbrev pub by_encodings : List (List ℕ) → Framing → Framing
by_encodings [] frame = frame
by_encodings (e ∷ es) frame =
    if list_all (λ v. str_eq_ignore_ascii_case v (codes "chunked")) (e ∷ es) then in_chunks frame else OtherEncoding

-- how the body behind these fields is framed
abbrev pub frame_of : List Pair → Framing
frame_of fields =
    by_encodings (values_of (codes "transfer-encoding") fields) (by_lengths (values_of (codes "content-length") fields))

-- the first value of a list
abbrev pub first_value_of : List (List ℕ) → Option (List ℕ)
first_value_of [] = None
first_value_of (v ∷ vs) = Some v
