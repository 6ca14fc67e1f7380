-- What the parts came to, as the pass of all hands.
use Rattle.std.proofs.Common.{◌<◌, List, [], drop, refl, sym, ◌∙◌, ap, subst}
use Rattle.std.proofs.lemmas.Bool.{true≢false}
use Rattle.path_scope.specs.Scope.{scope_of}
use Rattle.row_types.specs.Rules.{rules}
use Rattle.index_lock.proofs.Later.{later_self}
use Rattle.pass_runner.specs.Helped.{hands_in}
use Rattle.pass_runner.specs.Leading.{LeadsPass}
use Rattle.pass_runner.specs.declared.pass_end.PassEnd.TheVariants.{OutOfMemory}
use Rattle.pass_runner.proofs.CrewHands.{goes_with, same_goes}
use Rattle.pass_runner.proofs.PlannedLemmas.{leads_early}
use Rattle.pass_runner.proofs.PassHands.{hands_none, hands_so}
use Rattle.pass_runner.proofs.PassWalks.{helps_none}
use Rattle.pass_runner.proofs.SharedHands.{aided_hands, aided_helps}
use Rattle.pass_runner.proofs.SharedWalks.{leads_fault}
use Rattle.pass_runner.proofs.coordinate.pass_listed.Goals as goal

pub returns-in_default-clause-later : goal.returns-in_default-clause-later
returns-in_default-clause-later g c = later_self c.args.desk.seat

pub returns-in_default-clause-over : goal.returns-in_default-clause-over
returns-in_default-clause-over g c =
    same_goes _ _ c.args.hands.items c.args.hands.items refl (subst (λ n. 0 < n) c.args.hands.ok.0 c.requires.hand)
    (λ hand. leads_early (rules g.W.Truth.version g.W.Truth.true_row g.W.Truth.told) c.args.listing
    (scope_of c.args.roots.now (g.P.Selection.takes c.args.select.now))
    c.args.desk.seat.seen c.args.desk.seat.seen OutOfMemory tt)
    (helps_none g.T.Tree.shows g.T.Tree.told g.W.Truth.version [] [])

pub returns-in_default-clause-hands : goal.returns-in_default-clause-hands
returns-in_default-clause-hands g c =
    same_goes _ _ c.args.hands.items c.args.hands.items refl (subst (λ n. 0 < n) c.args.hands.ok.0 c.requires.hand)
    (λ hand. hands_none (λ f. true≢false (sym f))) (λ hand. hands_none (λ never. never))

pub returns-clause-later : goal.returns-clause-later
returns-clause-later g c = later_self c.args.desk.seat

pub returns-clause-over : goal.returns-clause-over
returns-clause-over g c =
    same_goes _ _ c.args.hands.items c.in-Err.hands.items (ap (λ v. v.items) c.in-Err.ensures.err)
    (subst (λ n. 0 < n) c.args.hands.ok.0 c.requires.hand)
    (λ hand. leads_early (rules g.W.Truth.version g.W.Truth.true_row g.W.Truth.told) c.args.listing
    (scope_of c.args.roots.now (g.P.Selection.takes c.args.select.now))
    c.args.desk.seat.seen c.args.desk.seat.seen OutOfMemory tt)
    (helps_none g.T.Tree.shows g.T.Tree.told g.W.Truth.version [] [])

pub returns-clause-hands : goal.returns-clause-hands
returns-clause-hands g c =
    same_goes _ _ c.args.hands.items c.in-Err.hands.items (ap (λ v. v.items) c.in-Err.ensures.err)
    (subst (λ n. 0 < n) c.args.hands.ok.0 c.requires.hand) (λ hand. hands_none (λ f. true≢false (sym f)))
    (λ hand. hands_none (λ never. never))

pub returns-in-Ok-apart-clause-over : goal.returns-in-Ok-apart-clause-over
returns-in-Ok-apart-clause-over g c =
    let out = c.pass_parts-desk in
    let parts = c.in-Ok-apart.field-0 in
    goes_with _ _ c.args.hands.items c.together-hands.result.0.items parts.first out.result.1 parts.helpers.items out.result.2.items
    c.in-Ok-apart.ensures.hands c.together-hands.ensures.hands
    (subst (λ (rs : List (List _)). LeadsPass (rules g.W.Truth.version g.W.Truth.true_row g.W.Truth.told) g.T.Tree.told
    c.args.listing (scope_of rs (g.P.Selection.takes c.args.select.now)) c.args.desk.seat.seen out.result.0.seat.seen (g.T.Tree.shows parts.first) (g.T.Tree.shows out.result.1)
    out.result.3) c.in-Ok.ensures.roots.0 out.ensures.over)
    (aided_helps g.T.Tree.shows
    g.T.Tree.told g.W.Truth.version parts.helpers.items out.result.2.items out.ensures.helped)

pub returns-in-Ok-apart-clause-hands : goal.returns-in-Ok-apart-clause-hands
returns-in-Ok-apart-clause-hands g c =
    let out = c.pass_parts-desk in
    let parts = c.in-Ok-apart.field-0 in
    goes_with _ _ c.args.hands.items c.together-hands.result.0.items parts.first out.result.1 parts.helpers.items out.result.2.items
    c.in-Ok-apart.ensures.hands c.together-hands.ensures.hands
    (hands_so out.ensures.over.listens.hand
    (leads_fault (rules g.W.Truth.version g.W.Truth.true_row g.W.Truth.told) out.result.3 out.ensures.over))
    (aided_hands g.T.Tree.shows
    g.T.Tree.told g.W.Truth.version parts.helpers.items out.result.2.items out.ensures.helped)

pub returns-in_default-clause-idle : goal.returns-in_default-clause-idle
returns-in_default-clause-idle g c = λ is. refl

pub returns-clause-idle : goal.returns-clause-idle
returns-clause-idle g c = λ is. ap (λ hands. drop 1 hands.items) c.in-Err.ensures.err

pub returns-in-Ok-apart-clause-idle : goal.returns-in-Ok-apart-clause-idle
returns-in-Ok-apart-clause-idle g c = λ is.
    ap (λ (l : List _). drop 1 l) c.together-hands.ensures.hands
    ∙ ap hands_in (c.pass_parts-desk.ensures.idle is)
    ∙ sym (ap (λ (l : List _). drop 1 l) c.in-Ok-apart.ensures.hands)
