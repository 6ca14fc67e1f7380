-- A reason is a byte that stands for one.
use Rattle.std.proofs.Common.{◌≡◌, Option, sym, ◌∙◌, ap, rules}
use Rattle.std.specs.Prelude.{Err}
use Rattle.file_formats.specs.declared.fault.Why.{Why}
use Rattle.row_codec.specs.Read.{known, why_at}
use Rattle.row_codec.proofs.Fronts.{fails, leads}
use Rattle.row_codec.proofs.parts.read_why.Goals as goal

pub returns-in_err-number : goal.returns-in_err-number
unfolding why_at
returns-in_err-number c =
    let is : c.from_residual.result ≡ Err c.in_err-number.field-0.0 = search rules in rw is (fails _ _ _ c.in_err-number.ensures)

pub returns-in-Some : goal.returns-in-Some
unfolding why_at
returns-in-Some c = leads _ _ _ _ _ c.in_ok-number.ensures (ap (λ (o : Option Why). known o c.byte.new.self) (sym c.why_of.ensures ∙ c.in-Some.is))

pub returns-in-None : goal.returns-in-None
unfolding why_at
returns-in-None c = leads _ _ _ _ _ c.in_ok-number.ensures (ap (λ (o : Option Why). known o c.byte.new.self) (sym c.why_of.ensures ∙ c.in-None.is))
