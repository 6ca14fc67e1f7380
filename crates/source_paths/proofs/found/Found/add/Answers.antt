use Rattle.std.proofs.Common.{ℕ, List, Option, Bor, sym, subst}
use Rattle.std.specs.Option.{option_copied}
use Rattle.row_types.specs.SourcePaths.{behind}
use Rattle.row_types.specs.Sources.{MayName}
use Rattle.source_paths.specs.Adds.{Has}
use Rattle.source_paths.proofs.AddLemmas.{adds-had}
use Rattle.source_paths.proofs.found.Found.add.Goals as goal

pub returns-then-knows : goal.returns-then-knows
returns-then-knows c =
    adds-had c.args.self.now
    (subst (λ (t : Option (Bor (List ℕ))). (path : List ℕ) → MayName (behind (option_copied c.args.folder) (option_copied t)) path
    → Has c.args.self.now path) (sym c.in-Some.is) (c.knows.ensures c.if-knows.true))
