-- The target is the escaped text, and says the route.
use Rattle.std.proofs.Common.{◌≡◌, ◌<◌, ◌++◌, ◌∙◌, All, ap, subst}
use Rattle.webapi_routes.specs.Printed.{escaped_target}
use Rattle.webapi_routes.proofs.PrintLemmas.{printed_says}
use Rattle.webapi_routes.proofs.printing.print.Goals as goal

pub returns-clause-text : goal.returns-clause-text
returns-clause-text c =
    rw c.into_bytes.ensures.value
    (c.in_ok-push_escaped.ensures.value
    ∙ ap (λ t. t ++ escaped_target c.as_slice.result.now) c.new-target.ensures.bytes
    ∙ ap escaped_target (c.as_slice.ensures.value ∙ c.in_ok-text.ensures.text))

pub returns-clause-back : goal.returns-clause-back
returns-clause-back c =
    let is : c.into_bytes.result.items ≡ escaped_target c.in_ok-text.text.items =
    rw c.into_bytes.ensures.value
    (c.in_ok-push_escaped.ensures.value
    ∙ ap (λ t. t ++ escaped_target c.as_slice.result.now) c.new-target.ensures.bytes
    ∙ ap escaped_target c.as_slice.ensures.value) in
    printed_says c.args.route.now c.in_ok-text.ensures
    (subst (All (λ b. b < 256)) c.as_slice.ensures.value c.in_ok-push_escaped.ensures.small) is
