-- The text of each route is that of its parts.
use Rattle.std.proofs.Common.{◌≡◌, ℕ, List, Result, Ok, Err, IfOk, sym, subst}
use Rattle.webapi_routes.specs.Printed.{IsRouteText, route_text}
use Rattle.webapi_routes.specs.declared.route.Route.{Route}
use Rattle.webapi_routes.specs.declared.route.Route.TheVariants.{Debuginfo, Executable, Source}
use Rattle.webapi_routes.proofs.printing.route_text.Goals as goal

-- of what was made two facts are known, and so a third is, of the route that is asked
if_made : {V E : Type 0} {P Q : V → Type 0} {is asked : Route} (bytes : V → List ℕ) (made : Result V E) → asked ≡ is
    → ((v : V) → P v → Q v → IsRouteText is (bytes v)) → IfOk made P → IfOk made Q
    → IfOk made (λ v. IsRouteText asked (bytes v))
if_made {is = is} bytes (Ok v) same both p q = subst (λ (r : Route). IsRouteText r (bytes v)) (sym same) (both v p q)
if_made bytes (Err e) same both p q = tt

pub returns-in-Debuginfo : goal.returns-in-Debuginfo
unfolding route_text
returns-in-Debuginfo c =
    if_made {is = Debuginfo c.in-Debuginfo.id} (λ text. text.items) c.id_text.result c.in-Debuginfo.is
    (λ text is known. record { text = is; parts = known }) c.id_text.ensures.text c.id_text.ensures.id

pub returns-in-Executable : goal.returns-in-Executable
unfolding route_text
returns-in-Executable c =
    if_made {is = Executable c.in-Executable.id} (λ text. text.items) c.id_text-in-Executable.result c.in-Executable.is
    (λ text is known. record { text = is; parts = known }) c.id_text-in-Executable.ensures.text c.id_text-in-Executable.ensures.id

pub returns-in-Source : goal.returns-in-Source
unfolding route_text
returns-in-Source c =
    if_made {is = Source c.in-Source.id c.in-Source.path} (λ text. text.items) c.source_text.result c.in-Source.is
    (λ text is known. record { text = is; parts = (known, c.source_text.ensures.path) }) c.source_text.ensures.text
    c.source_text.ensures.id
