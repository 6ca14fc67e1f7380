-- Replies (RFC 9112, sections 2.1, 4 and 5; the phrases of RFC 9110, section 15, and RFC 6585, section 5). Which lines
-- stand, and in which order, is this project's rule.
use Rattle.std.specs.Prelude.{ℕ, ◌==◌, Bool, true, false, ◌&&◌, not, nat_le, if◌then◌else◌, IsTrue}
use Rattle.std.specs.Prelude.{List, [], ◌∷◌, ◌++◌, Option, Some, None, codes, decimal}
use Rattle.std.specs.List.{flat_map, list_any}
use Rattle.percent_encoding.specs.Percent.{percent_encode_byte, percent_sign}
use Rattle.http_wire.specs.declared.reply.ReplyHead.{ReplyHead}

-- a field or a status line, from its two parts
unfoldable pub head_line : List ℕ → List ℕ → List ℕ
head_line name value = name ++ value ++ codes "\r\n"

-- the statuses of replies, with their phrases
abbrev pub phrases : List (ℕ × List ℕ)
phrases =
    (200, codes "OK")
    ∷ (400, codes "Bad Request")
    ∷ (404, codes "Not Found")
    ∷ (405, codes "Method Not Allowed")
    ∷ (431, codes "Request Header Fields Too Large")
    ∷ (502, codes "Bad Gateway")
    ∷ (503, codes "Service Unavailable")
    ∷ (507, codes "Insufficient Storage")
    ∷ []

-- the phrase of a status in a list
abbrev pub phrase_in : List (ℕ × List ℕ) → ℕ → List ℕ
phrase_in [] status = []
phrase_in (entry ∷ rest) status = if status == entry.0 then entry.1 else phrase_in rest status

-- the phrase of a status
abbrev pub phrase_of : ℕ → List ℕ
phrase_of status = phrase_in phrases status

-- a status of a reply
abbrev pub IsStatus : ℕ → Type 0
IsStatus status = IsTrue (list_any (λ entry. status == entry.0) phrases)

-- the status line
unfoldable pub status_line : ℕ → List ℕ
status_line status = head_line (codes "HTTP/1.1 " ++ decimal status ++ codes " ") (phrase_of status)

-- the media type of a text, or of a file's bytes
abbrev pub media_type : Bool → List ℕ
media_type true = codes "text/plain"
media_type false = codes "application/octet-stream"

-- the line of the media type
unfoldable pub type_line : Bool → List ℕ
type_line is_text = head_line (codes "Content-Type: ") (media_type is_text)

-- the line of the body's length
unfoldable pub length_line : ℕ → List ℕ
length_line len = head_line (codes "Content-Length: ") (decimal len)

-- the lines in front: the status, the media type, the body's length
unfoldable pub front_lines : ReplyHead → List ℕ
front_lines head = status_line head.status ++ type_line head.text ++ length_line head.len

-- the line of a file's size
unfoldable pub size_line : Bool → ℕ → List ℕ
size_line true len = []
size_line false len = head_line (codes "X-DEBUGINFOD-SIZE: ") (decimal len)

-- a byte that stands for itself in a field: a visible one of ASCII, but the percent sign
abbrev pub is_plain : ℕ → Bool
is_plain b = nat_le 0x21 b && nat_le b 0x7e && not (b == percent_sign)

-- the bytes, with `%` and two upper-case hexadecimal digits for each that isn't plain
unfoldable pub escaped : List ℕ → List ℕ
escaped bytes = flat_map (λ b. if is_plain b then b ∷ [] else percent_encode_byte b) bytes

-- the line of the file that the body comes from
unfoldable pub file_line : Option (List ℕ) → List ℕ
file_line (Some path) = head_line (codes "X-DEBUGINFOD-FILE: ") (escaped path)
file_line None = []

-- the line of the methods that are taken, where another one was refused
unfoldable pub allow_line : ℕ → List ℕ
allow_line status = if status == 405 then head_line (codes "Allow: ") (codes "GET, HEAD") else []

-- what the last field says
abbrev pub connection : Bool → List ℕ
connection true = codes "close"
connection false = codes "keep-alive"

-- the line on whether the connection goes on
unfoldable pub connection_line : Bool → List ℕ
connection_line close = head_line (codes "Connection: ") (connection close)

-- the lines that depend on the reply: size, file, methods, and whether the connection goes on
unfoldable pub back_lines : ReplyHead → List ℕ
back_lines head =
    size_line head.text head.len
    ++ file_line head.file
    ++ allow_line head.status
    ++ connection_line head.close

-- a reply's head: its lines and the empty one
unfoldable pub head_bytes : ReplyHead → List ℕ
head_bytes head = front_lines head ++ back_lines head ++ codes "\r\n"

-- the bytes of a reply, with its body or without
abbrev pub reply_bytes : ReplyHead → List ℕ → Bool → List ℕ
reply_bytes head body true = head_bytes head ++ body
reply_bytes head body false = head_bytes head
