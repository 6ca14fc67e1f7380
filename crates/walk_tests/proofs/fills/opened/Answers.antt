-- The file that was opened is a version of the world.
use Rattle.std.proofs.Common.{ℕ, List, subst}
use Rattle.tree_trait.specs.TwoWorld.{IsEither}
use Rattle.walk_tests.proofs.fills.opened.Goals as goal

pub new-requires : goal.new-requires
new-requires g c =
    subst (λ (p : List ℕ). (b : List ℕ) × IsEither p c.in-Opened.stamp b) c.as_str.ensures.value
    (c.in-Opened.ensures.asks.fits.bytes, c.in-Opened.ensures.asks.fits.known)
