-- The world isn't told.
use Rattle.std.proofs.Common.{sym, ◌∙◌}
use Rattle.std.proofs.lemmas.Bool.{false≢true}
use Rattle.tree_trait.proofs.swaps.Swaps.add.Goals as goal

pub invariant_of-self : goal.invariant_of-self
invariant_of-self g c = record { none = λ told. absurd (false≢true (sym c.requires ∙ told)) }
