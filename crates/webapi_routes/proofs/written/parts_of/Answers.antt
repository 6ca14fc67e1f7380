-- The text is cut behind its front, at the next slash.
use Rattle.std.proofs.Common.{◌++◌, ◌∙◌, ap, sym, codes}
use Rattle.webapi_routes.proofs.PartLemmas.{no_slash, nothing_asked, something_asked}
use Rattle.webapi_routes.proofs.written.parts_of.Goals as goal

pub returns-in_default-split_once : goal.returns-in_default-split_once
returns-in_default-split_once c =
    let cut = c.in-Some.ensures.cases in
    no_slash (cut.1.1 ∙ ap (λ t. codes "/buildid/" ++ t) (sym cut.2)) c.in_default-split_once.ensures.cases

pub returns-in-Some-wanted : goal.returns-in-Some-wanted
returns-in-Some-wanted c =
    let cut = c.in-Some.ensures.cases in
    something_asked (c.in-Some-split_once.hex, c.in-Some-split_once.behind) (cut.1.1 ∙ ap (λ t. codes "/buildid/" ++ t) (sym cut.2))
    c.in-Some-split_once.ensures.cases c.in-Some-wanted.ensures

pub returns-in-None : goal.returns-in-None
returns-in-None c =
    let cut = c.in-Some.ensures.cases in
    nothing_asked (c.in-Some-split_once.hex, c.in-Some-split_once.behind) (cut.1.1 ∙ ap (λ t. codes "/buildid/" ++ t) (sym cut.2))
    c.in-Some-split_once.ensures.cases c.in-None.ensures
