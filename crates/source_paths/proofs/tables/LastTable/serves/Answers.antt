use Rattle.std.proofs.Common.{subst}
use Rattle.source_paths.specs.Keys.{IsTableOf}
use Rattle.source_paths.proofs.tables.LastTable.serves.Goals as goal

pub returns-then-not-self : goal.returns-then-not-self
returns-then-not-self c = λ _ s last.
    subst (λ n. IsTableOf s n c.args.key.now.base c.args.self.now.read) c.if-self-key.true
    (record { here = last.fixed c.if-not-self.true c.args.key.now.base; fixed = last.fixed })
