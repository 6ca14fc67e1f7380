-- The limits of a lobby (this project's rule).
use Rattle.std.specs.Prelude.{ℕ, ◌+◌, ◌*◌, ◌-◌, max, min}
use Rattle.dbgd_edges.specs.declared.lobby_limits.LobbyLimits.{LobbyLimits}
use Rattle.dbgd_edges.specs.declared.lobby_limits.TheConstants.{FILES_A_WORKER, FILES_BESIDE, HEAD_SECS, IDLE_SECS}
use Rattle.dbgd_edges.specs.declared.lobby_limits.TheConstants.{LOBBY_BYTES, LOBBY_CONNS, SHUT_MILLIS}

-- how many connections stand in the lobby at most, beside so many workers, where there are so many descriptors: one at least
abbrev pub lobby_room : ℕ → ℕ → ℕ
lobby_room workers files = max 1 (min LOBBY_CONNS (files - (workers * FILES_A_WORKER + FILES_BESIDE)))

-- the limits there
abbrev pub usual_limits : ℕ → ℕ → LobbyLimits
usual_limits workers files = record {
  idle_millis = IDLE_SECS * 1000;
  head_millis = HEAD_SECS * 1000;
  shut_millis = SHUT_MILLIS;
  conns = lobby_room workers files;
  bytes = LOBBY_BYTES;
}
