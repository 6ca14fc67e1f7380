-- What is to be done about what was read.
use Rattle.std.proofs.Common.{◌≡◌, Bool, sym, ◌∙◌, ap, subst}
use Rattle.tree_trait.specs.Found.{Versions}
use Rattle.http_wire.specs.declared.head.HeadFault.{HeadFault}
use Rattle.http_wire.specs.declared.head.HeadFault.TheVariants as head_fault
use Rattle.conn_server.specs.Bodies.{DecidedFacts}
use Rattle.conn_server.specs.Plans.{CanPlan, TurnPlan, PlansRefusal, replies_so}
use Rattle.conn_server.specs.declared.report.ConnEnd.{ConnEnd}

-- a reply to bytes that are no head can be written
pub can_refuse : (version : Versions) (fault : HeadFault) (what : TurnPlan) → PlansRefusal fault what → CanPlan version what
can_refuse version (head_fault.Bad len) what is = subst (λ (p : TurnPlan). CanPlan version p) (sym is) tt
can_refuse version _ what is = subst (λ (p : TurnPlan). CanPlan version p) (sym is) tt

-- replies of one form
pub replies_as : (decided : DecidedFacts) {close closes with_body sends : Bool} {why end : ConnEnd} → close ≡ closes
    → with_body ≡ sends → why ≡ end → replies_so decided close with_body why ≡ replies_so decided closes sends end
replies_as decided {close} {closes} {with_body} {sends} {why} {end} c w e =
    ap (λ (x : Bool). replies_so decided x with_body why) c
    ∙ (ap (λ (x : Bool). replies_so decided closes x why) w ∙ ap (λ (x : ConnEnd). replies_so decided closes sends x) e)
