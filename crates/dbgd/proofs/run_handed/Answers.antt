-- A row with a link to each server has as many as there are servers.
use Rattle.std.proofs.Common.{◌≡◌, ◌∙◌, length, map, sym, ap}
use Rattle.std.proofs.lemmas.List.{length-map}
use Rattle.std.proofs.lemmas.List.Elements.{All-weaker}
use Rattle.dbgd.specs.Servers.{server_of}
use Rattle.dbgd.proofs.run_handed.Goals as goal

pub run_linked-requires-clause-linked : goal.run_linked-requires-clause-linked
run_linked-requires-clause-linked g c = λ κs within.
    All-weaker (λ row. map server_of row.items ≡ c.args.needs.now.upstream.items) _
    (λ row is. sym (length-map row.items server_of) ∙ ap length is ∙ ap length c.requires.upstream) c.in_ok-links.links.items
    (rw c.as_slice.ensures.value at c.in_ok-links.ensures.servers)
