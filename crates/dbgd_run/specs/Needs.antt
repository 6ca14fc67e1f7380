-- What a run needs of the outside (this project's rule), by what its words ask.
use Rattle.std.specs.Prelude.{◌≡◌, ℕ, ◌+◌, ◌-◌, ◌*◌, ◌<◌, ◌≤◌, ◌^◌, Bool, true, false, List, [], All, Option, Some, None, length, min}
use Rattle.std.specs.Global.{Vec}
use Rattle.federation.specs.Server.{ServerFacts}
use Rattle.dbgd_words.specs.Words.{Line, asks_find, asks_ident, asks_scan, asks_section, asks_serve, asks_sources}

-- the hands: one for a file; two and one for each worker for a scan; two and two for each worker for a server
abbrev pub hands_of : Line → ℕ
hands_of (asks_ident path) = 1
hands_of (asks_sources path) = 1
hands_of (asks_section path name) = 1
hands_of (asks_scan path workers patterns roots) = min (workers + 2) (2 ^ 64 - 1)
hands_of (asks_serve path workers port secs sources upstream patterns roots) = min (workers * 2 + 2) (2 ^ 64 - 1)
hands_of _ = 0

-- the doors: one for each worker of a server
abbrev pub doors_of : Line → ℕ
doors_of (asks_serve path workers port secs sources upstream patterns roots) = workers
doors_of _ = 0

-- the port of the doors; there is none without doors
abbrev pub port_of : Line → ℕ
port_of (asks_serve path workers port secs sources upstream patterns roots) = port
port_of _ = 0

-- the rows of links: one for each worker of a server, and one for a search
abbrev pub rows_of : Line → ℕ
rows_of (asks_serve path workers port secs sources upstream patterns roots) = workers
rows_of (asks_find cache route upstream) = 1
rows_of _ = 0

-- the servers that a server or a search asks for what isn't here, in order: a row of links has one to each
abbrev pub servers_of : Line → List ServerFacts
servers_of (asks_serve path workers port secs sources upstream patterns roots) = upstream
servers_of (asks_find cache route upstream) = upstream
servers_of _ = []

-- the folder of the cache of a search
abbrev pub cache_of : Line → Option (List ℕ)
cache_of (asks_find cache route upstream) = Some cache
cache_of _ = None

-- whether a line asks other servers: a server or a search
abbrev pub asks_others : Line → Bool
asks_others (asks_serve path workers port secs sources upstream patterns roots) = true
asks_others (asks_find cache route upstream) = true
asks_others _ = false

-- where a hand is needed there is one
abbrev pub HasHand : Line → ℕ → Type 0
HasHand line hands = 0 < hands_of line → 0 < hands

-- where doors are needed, which a server alone does, there are exactly these, and the hands and the rows of links that are
-- needed, or more: in each row a link for each server that is asked
abbrev pub HasEnough : {L : Type 0} → Line → ℕ → ℕ → List (Vec L) → Type 0
HasEnough line hands doors rows =
    0 < doors_of line → (hands_of line ≤ hands) × (doors ≡ doors_of line) × (rows_of line ≤ length rows)
    × All (λ row. length row.items ≡ length (servers_of line)) rows
