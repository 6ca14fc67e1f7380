-- An identity is the sum of its flags, and its id.
use Rattle.std.proofs.Common.{◌≡◌, Option, refl, sym, ◌∙◌, ap, rules}
use Rattle.std.specs.Prelude.{Err}
use Rattle.row_codec.specs.Read.{ident_at, known}
use Rattle.row_codec.specs.declared.parts.Flags.{Flags}
use Rattle.row_codec.proofs.Fronts.{fails, leads}
use Rattle.row_codec.proofs.parts.read_ident.Goals as goal

pub returns-in_err-sum : goal.returns-in_err-sum
unfolding ident_at
returns-in_err-sum c =
    let is : c.from_residual.result ≡ Err c.in_err-sum.field-0.0 = search rules in rw is (fails _ _ _ c.in_err-sum.ensures)

pub returns-in_default : goal.returns-in_default
unfolding ident_at
returns-in_default c = leads _ _ _ _ _ c.in_ok-sum.ensures (fails _ _ _ (ap (λ (o : Option Flags). known o c.byte.new.self) (sym c.flags_of.ensures ∙ c.in_default.is)))

pub returns-in_err-id : goal.returns-in_err-id
unfolding ident_at
returns-in_err-id c =
    let is : c.from_residual-in_err-id.result ≡ Err c.in_err-id.field-0.0 = search rules in rw is (leads _ _ _ _ _ c.in_ok-sum.ensures (leads _ _ _ _ _ (ap (λ (o : Option Flags). known o c.byte.new.self) (sym c.flags_of.ensures ∙ c.in-Some.is)) (fails _ _ _ c.in_err-id.ensures)))

pub returns : goal.returns
unfolding ident_at
returns c = leads _ _ _ _ _ c.in_ok-sum.ensures (leads _ _ _ _ _ (ap (λ (o : Option Flags). known o c.byte.new.self) (sym c.flags_of.ensures ∙ c.in-Some.is)) (leads _ _ _ _ _ c.in_ok-id.ensures refl))
