-- The servers so far, and behind them those of the texts that are left.
use Rattle.std.proofs.Common.{◌≡◌, drop, map}
use Rattle.dbgd_words.specs.Words.{servers_in}
use Rattle.dbgd_words.proofs.ServerLemmas.{servers_behind}
use Rattle.dbgd_words.proofs.upstream.servers_of.Given as goal

abbrev pub invariant-loop-text : goal.invariant-loop-text
invariant-loop-text l =
    servers_behind l.servers.items (servers_in (map (λ text. text.now) (drop l.text-index l.texts)))
    ≡ servers_in (map (λ text. text.now) l.texts)
