-- What the parts came to, as the pass of all hands.
use Rattle.std.proofs.Common.{ℕ, List, inl, ap, arith, refl, sym, subst, length}
use Rattle.std.proofs.lemmas.Bool.{true≢false}
use Rattle.std.proofs.lemmas.Bool.Decides.{nat_tests}
use Rattle.path_scope.specs.Scope.{scope_of}
use Rattle.row_types.specs.Rules.{rules}
use Rattle.index_rows.specs.Rows.{row_names}
use Rattle.pass_runner.specs.Passes.{EndsOver}
use Rattle.pass_runner.proofs.BesideLemmas.{over_weighed}
use Rattle.pass_runner.proofs.CrewHands.{goes_with, same_goes}
use Rattle.pass_runner.proofs.PassHands.{hands_none, hands_so}
use Rattle.pass_runner.proofs.PassWalks.{helps_none}
use Rattle.pass_runner.proofs.Weighed.{came_hands, came_helps, came_loads, loads_by, weighed_fault, weighed_keeper}
use Rattle.pass_runner.proofs.beside.scan_beside.Goals as goal

pub returns-in_default-clause-over : goal.returns-in_default-clause-over
returns-in_default-clause-over g c =
    same_goes _ _ c.args.hands.items c.args.hands.items refl (omega (arith, c.requires.hands, c.args.hands.ok.0))
    (λ hand. inl (record { hand = refl; state = refl }))
    (helps_none g.T.Tree.shows g.T.Tree.told g.W.Truth.version c.args.listing (row_names c.args.state.rows))

pub returns-in_default-clause-hands : goal.returns-in_default-clause-hands
returns-in_default-clause-hands g c =
    same_goes _ _ c.args.hands.items c.args.hands.items refl (omega (arith, c.requires.hands, c.args.hands.ok.0))
    (λ hand. hands_none (λ f. true≢false (sym f))) (λ hand. hands_none (λ never. never))

pub returns-in-Err-clause-over : goal.returns-in-Err-clause-over
returns-in-Err-clause-over g c =
    same_goes _ _ c.args.hands.items c.in-Err.hands.items (ap (λ v. v.items) c.in-Err.ensures.err)
    (omega (arith, c.requires.hands, c.args.hands.ok.0)) (λ hand. inl (record { hand = refl; state = refl }))
    (helps_none g.T.Tree.shows g.T.Tree.told g.W.Truth.version c.args.listing (row_names c.args.state.rows))

pub returns-in-Err-clause-hands : goal.returns-in-Err-clause-hands
returns-in-Err-clause-hands g c =
    same_goes _ _ c.args.hands.items c.in-Err.hands.items (ap (λ v. v.items) c.in-Err.ensures.err)
    (omega (arith, c.requires.hands, c.args.hands.ok.0)) (λ hand. hands_none (λ f. true≢false (sym f)))
    (λ hand. hands_none (λ never. never))

pub returns-in-Ok-apart-clause-over : goal.returns-in-Ok-apart-clause-over
returns-in-Ok-apart-clause-over g c =
    let out = c.scan_parts-state in
    let parts = c.in-Ok-apart.field-0 in
    let gave = c.in-Ok-apart.ensures in
    goes_with _ _ c.args.hands.items c.together-hands.result.0.items parts.first out.result.1 parts.helpers.items
    out.result.2.items gave.hands c.together-hands.ensures.hands
    (over_weighed {K = g.row.K.Denot} (rules g.W.Truth.version g.W.Truth.true_row g.W.Truth.told) g.T.Tree.told
    g.K.Keeper.told g.K.Keeper.shows g.T.Tree.shows c.args.hands.len c.args.listing
    (scope_of c.args.roots.now (g.P.Selection.takes c.args.select.now)) parts.first
    out.result.1 c.args.state out.result.0 c.together-hands.result.1 _ out.result.3 c.weighed.result c.weighed.ensures
    (subst (λ (rs : List (List ℕ)). EndsOver {K = g.row.K.Denot} (rules g.W.Truth.version g.W.Truth.true_row g.W.Truth.told)
    g.T.Tree.told g.K.Keeper.told g.K.Keeper.shows g.T.Tree.shows c.args.hands.len c.args.listing
    (scope_of rs (g.P.Selection.takes c.args.select.now)) parts.first
    out.result.1 c.args.state out.result.0 out.result.3) c.in-Ok.ensures.roots.0
    (out.ensures.over c.args.hands.len c.requires.hands)))
    (came_helps g.T.Tree.shows
    g.T.Tree.told g.W.Truth.version c.args.listing (row_names c.args.state.rows) parts.helpers.items
    out.result.2.items out.result.3 out.ensures.helped)

pub returns-in-Ok-apart-clause-hands : goal.returns-in-Ok-apart-clause-hands
returns-in-Ok-apart-clause-hands g c =
    let out = c.scan_parts-state in
    let parts = c.in-Ok-apart.field-0 in
    let gave = c.in-Ok-apart.ensures in
    goes_with _ _ c.args.hands.items c.together-hands.result.0.items parts.first out.result.1 parts.helpers.items
    out.result.2.items gave.hands c.together-hands.ensures.hands
    (hands_so out.ensures.hand
    (λ f. out.ensures.hand.cause.rose (weighed_fault out.result.3 c.together-hands.result.1 _ c.weighed.result c.weighed.ensures f)))
    (came_hands g.T.Tree.shows
    g.T.Tree.told g.W.Truth.version c.args.listing (row_names c.args.state.rows) parts.helpers.items
    out.result.2.items out.result.3 out.ensures.helped)

pub returns-in-Ok-apart-clause-loads : goal.returns-in-Ok-apart-clause-loads
returns-in-Ok-apart-clause-loads g c =
    let out = c.scan_parts-state in
    let parts = c.in-Ok-apart.field-0 in
    let gave = c.in-Ok-apart.ensures in
    let long = ap length gave.hands in
    loads_by g.T.Tree.shows g.T.Tree.told
    g.W.Truth.version c.args.listing (row_names c.args.state.rows) parts.helpers.items out.result.2.items out.result.3
    c.args.hands.items c.together-hands.result.0.items parts.first out.result.1 c.weighed.result gave.hands
    c.together-hands.ensures.hands
    (came_loads g.T.Tree.shows
    g.T.Tree.told g.W.Truth.version c.args.listing (row_names c.args.state.rows) parts.helpers.items
    out.result.2.items out.result.3 parts.first out.result.1 c.together-hands.result.1 _ c.weighed.result out.ensures.helped
    gave.tasks c.together-hands.ensures.asked (λ three. grind (arith, nat_tests, long, three, c.args.hands.ok.0))
    c.weighed.ensures)

pub returns-in-Ok-apart-clause-keeper : goal.returns-in-Ok-apart-clause-keeper
returns-in-Ok-apart-clause-keeper g c = λ is.
    c.scan_parts-state.ensures.keeper
    (weighed_keeper c.scan_parts-state.result.3 c.together-hands.result.1 _ c.weighed.result c.weighed.ensures is)
