-- Requests to other servers (RFC 9112, sections 3 and 5). Which lines stand, and in which order, is this project's rule.
use Rattle.std.specs.Prelude.{ℕ, List, ◌++◌, codes, decimal, replicate}
use Rattle.std.specs.List.{concat}
use Rattle.http_wire.specs.Reply.{head_line}

-- the request line, of a target below a base
unfoldable pub get_line : List ℕ → List ℕ → List ℕ
get_line base target = head_line (codes "GET ") (base ++ target ++ codes " HTTP/1.1")

-- the line of the server's name and port
unfoldable pub host_line : List ℕ → ℕ → List ℕ
host_line host port = head_line (codes "Host: ") (host ++ codes ":" ++ decimal port)

-- `unknown` for each forwarder that the question came through, and once more, joined by a comma and a space
abbrev pub forwarders : ℕ → List ℕ
forwarders hops = codes "unknown" ++ concat (replicate hops (codes ", unknown"))

-- the line of the forwarders
unfoldable pub hops_line : ℕ → List ℕ
hops_line hops = head_line (codes "X-Forwarded-For: ") (forwarders hops)

-- a request
abbrev pub request_bytes : List ℕ → List ℕ → List ℕ → ℕ → ℕ → List ℕ
request_bytes base target host port hops =
    get_line base target
    ++ host_line host port
    ++ head_line (codes "Accept-Encoding: ") (codes "identity")
    ++ hops_line hops
    ++ head_line (codes "Connection: ") (codes "close")
    ++ codes "\r\n"
