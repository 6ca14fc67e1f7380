-- Addresses of upstream servers (this project's rule over the URL Standard).
use Rattle.std.specs.Prelude.{ℕ, ◌==◌, ◌&&◌, Bool, List, [], ◌∷◌, codes, Option, Some, None, is_none, unwrap_or, Ok, Err, if◌then◌else◌, bytes_eq}
use Rattle.url.specs.Host.{host_text}
use Rattle.url.specs.Input.{is_empty}
use Rattle.url.specs.Parser.{Parsed, parse_url}
use Rattle.url.specs.Parts.{Parts, has_host, host_or_empty}
use Rattle.federation.specs.Server.{ServerFacts}

-- whether a URL is of http with a host, and without user, query and fragment
abbrev pub is_server_url : Parts → Bool
is_server_url url =
    bytes_eq url.scheme (codes "http") && is_empty url.username && is_empty url.password && has_host url
    && is_none url.query && is_none url.fragment

-- a path without its last byte, where that is a slash
abbrev pub base_of : List ℕ → List ℕ
base_of [] = []
base_of (b ∷ []) = if b == 47 then [] else b ∷ []
base_of (b ∷ c ∷ path) = b ∷ base_of (c ∷ path)

-- where the server of a URL is; the port is 80 where none is given
abbrev pub server_at : Parts → ServerFacts
server_at url = record { host = host_text (host_or_empty url); port = unwrap_or url.port 80; base = base_of url.path }

-- the same, if the URL is an address
abbrev pub server_of_url : Parts → Option ServerFacts
server_of_url url = if is_server_url url then Some (server_at url) else None

-- the same of what a text is read as
abbrev pub server_of_parsed : Parsed Parts → Option ServerFacts
server_of_parsed (Ok url) = server_of_url url
server_of_parsed (Err e) = None

-- where the server of an address is, if the text is one
abbrev pub server_of_text : List ℕ → Option ServerFacts
server_of_text text = server_of_parsed (parse_url None text)
