-- A reading is its tag, and what stands behind it.
use Rattle.std.proofs.Common.{◌≡◌, inl, rules}
use Rattle.std.specs.Prelude.{Err}
use Rattle.row_codec.specs.Read.{reading_at}
use Rattle.row_codec.proofs.Fronts.{fails, leads, leads_or}
use Rattle.row_codec.proofs.read.read_reading.Goals as goal

pub returns-in_err-tag : goal.returns-in_err-tag
unfolding reading_at
returns-in_err-tag c =
    let is : c.from_residual.result ≡ Err c.in_err-tag.field-0.0 = search rules in rw is (inl (fails _ _ _ c.in_err-tag.ensures))

pub returns-in_err-reading : goal.returns-in_err-reading
unfolding reading_at
returns-in_err-reading c =
    let is : c.from_residual-in_err-reading.result ≡ Err c.in_err-reading.field-0.0 = search rules in rw is (leads_or _ _ _ _ _ c.in_ok-tag.ensures c.in_err-reading.ensures)

pub returns : goal.returns
unfolding reading_at
returns c = leads _ _ _ _ _ c.in_ok-tag.ensures c.in_ok-reading.ensures
