-- An edition is a byte that isn't 0.
use Rattle.std.proofs.Common.{◌≡◌, arith, rules}
use Rattle.std.specs.Prelude.{Err}
use Rattle.std.proofs.lemmas.Bool.{le-ltb, lt-ltb}
use Rattle.row_codec.specs.Read.{edition_at}
use Rattle.row_codec.proofs.Fronts.{fails, leads, passes_test, test_failed}
use Rattle.row_codec.proofs.parts.read_edition.Goals as goal

pub returns-in_err-edition-clause-value : goal.returns-in_err-edition-clause-value
unfolding edition_at
returns-in_err-edition-clause-value c =
    let is : c.from_residual.result ≡ Err c.in_err-edition.field-0.0 = search rules in rw is (fails _ _ _ c.in_err-edition.ensures)

pub returns-then-edition-eq0-clause-value : goal.returns-then-edition-eq0-clause-value
unfolding edition_at
returns-then-edition-eq0-clause-value c = leads _ _ _ _ _ c.in_ok-edition.ensures (test_failed _ _ _ _ (le-ltb 0 c.in_ok-edition.edition (omega arith)))

pub returns-clause-value : goal.returns-clause-value
unfolding edition_at
returns-clause-value c = leads _ _ _ _ _ c.in_ok-edition.ensures (passes_test _ _ _ _ (lt-ltb 0 c.in_ok-edition.edition (omega arith)))
