-- A text is its length, and so many bytes.
use Rattle.std.proofs.Common.{◌≡◌, rules}
use Rattle.std.specs.Prelude.{Err}
use Rattle.row_codec.specs.Read.{text_in_front}
use Rattle.row_codec.proofs.Fronts.{fails, leads}
use Rattle.row_codec.proofs.left.Left.text.Goals as goal

pub returns-in_err-count : goal.returns-in_err-count
unfolding text_in_front
returns-in_err-count c =
    let is : c.from_residual.result ≡ Err c.in_err-count.field-0.0 = search rules in rw is (fails _ _ _ c.in_err-count.ensures)

pub returns-in_err-text : goal.returns-in_err-text
unfolding text_in_front
returns-in_err-text c =
    let is : c.from_residual-in_err-text.result ≡ Err c.in_err-text.field-0.0 = search rules in rw is (leads _ _ _ _ _ c.in_ok-count.ensures c.in_err-text.ensures.value)

pub returns : goal.returns
unfolding text_in_front
returns c = leads _ _ _ _ _ c.in_ok-count.ensures c.in_ok-text.ensures.value
