-- What the fields of a request's head say (RFC 9110, sections 5.6.1, 7.6.1 and 8.6; RFC 9112, sections 6 and 9.3). How
-- forwarders are counted is this project's rule.
use Rattle.std.specs.Prelude.{ℕ, ◌==◌, ◌&&◌, ◌||◌, Bool, not, List, codes, map, filter, length, sum_by, if◌then◌else◌}
use Rattle.std.specs.List.{list_any, list_all, slice_split}
use Rattle.std.specs.Str.{bytes_eq, str_eq_ignore_ascii_case}
use Rattle.httparse.specs.Grammar.{RequestHead, is_ows, trim_ows}
use Rattle.httparse.specs.Spans.{name_and_value}

-- a field's name, and its value without white space around it
abbrev pub Pair : Type 0
Pair = List ℕ × List ℕ

-- the fields of a head
abbrev pub head_fields : RequestHead → List Pair
head_fields head = map name_and_value head.fields

-- whether a field has this name; names are compared without regard to the case of ASCII letters
abbrev pub has_name : List ℕ → Pair → Bool
has_name name field = str_eq_ignore_ascii_case field.0 name

-- the pieces of a value between its commas
abbrev pub listed_values : List ℕ → List (List ℕ)
listed_values value = slice_split (λ b. b == 44) value

-- whether a piece is the token `close`, in any case, with white space around it or none
abbrev pub is_close : List ℕ → Bool
is_close piece = str_eq_ignore_ascii_case (trim_ows piece) (codes "close")

-- whether a field asks to close the connection
abbrev pub asks_close : Pair → Bool
asks_close field = has_name (codes "connection") field && list_any is_close (listed_values field.1)

-- whether a head asks to close the connection: HTTP/1.0 does
abbrev pub closes : RequestHead → Bool
closes head = head.minor == 0 || list_any asks_close (head_fields head)

-- whether a field says that a body follows
abbrev pub announces : Pair → Bool
announces field =
    has_name (codes "transfer-encoding") field
    || (has_name (codes "content-length") field && not (bytes_eq field.1 (codes "0")))

-- whether a head is followed by a body
abbrev pub has_body : RequestHead → Bool
has_body head = list_any announces (head_fields head)

-- whether a piece names a forwarder: it holds more than white space
abbrev pub is_filled : List ℕ → Bool
is_filled piece = not (list_all is_ows piece)

-- how many forwarders a field names
abbrev pub hops_in : Pair → ℕ
hops_in field =
    if has_name (codes "x-forwarded-for") field then length (filter is_filled (listed_values field.1)) else 0

-- how many forwarders a head names
abbrev pub hops : RequestHead → ℕ
hops head = sum_by hops_in (head_fields head)
