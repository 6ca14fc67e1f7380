-- An id that gets room has no path.
use Rattle.std.proofs.Common.{Some, sym, ◌∙◌, ap}
use Rattle.index_rows.specs.Tally.{count_at}
use Rattle.index_rows.proofs.TalliesLemmas.{no_key, not_listed, stays_room, stays_same}
use Rattle.index_rows.proofs.tallies.Tallies.make_id.Goals as goal

pub returns-in_ok-insert-clause-same : goal.returns-in_ok-insert-clause-same
returns-in_ok-insert-clause-same c =
    let none = not_listed c.args.id.now c.args.self.now.ids.entries (sym c.contains_key.ensures ∙ c.if-not-contains_key.true) in
    stays_same c.args.id.now (Some c.new.result) c.args.self.now.ids.entries c.insert.new.self.entries c.in_ok-insert.ensures.updates.0
    (λ path. ap (count_at path) (c.new.ensures ∙ sym none))

pub returns-in_ok-insert-clause-keeps : goal.returns-in_ok-insert-clause-keeps
returns-in_ok-insert-clause-keeps c =
    let none = not_listed c.args.id.now c.args.self.now.ids.entries (sym c.contains_key.ensures ∙ c.if-not-contains_key.true) in
    stays_room c.args.id.now (Some c.new.result) c.args.self.now.ids.entries c.insert.new.self.entries c.in_ok-insert.ensures.updates.0
    (λ path has. absurd (no_key c.args.id.now path c.args.self.now.ids.entries none has))
