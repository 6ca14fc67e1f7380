-- Which server a link of the program asks (this project's rule).
use Rattle.std.specs.String.{string_bytes}
use Rattle.federation.specs.Server.{ServerFacts}
use Rattle.federation.specs.declared.http_link.HttpLink.{HttpLink}

-- the server that a link asks
abbrev pub server_of : {D C : Type 0} → HttpLink D C → ServerFacts
server_of link =
    record { host = string_bytes link.server.host; port = link.server.port; base = string_bytes link.server.base }
