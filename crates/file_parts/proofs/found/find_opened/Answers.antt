-- The open file has the path and the stamp with which it was opened.
use Rattle.std.proofs.Common.{◌≡◌, ℕ, List, refl, sym, ◌∙◌, ap, subst}
use Rattle.row_types.specs.Name.{NameFacts}
use Rattle.tree_trait.specs.Opened.{opened_name, unread_picture}
use Rattle.file_parts.specs.AtPath.{stamped_name}
use Rattle.tree_trait.specs.declared.filling.FillAnswer.{FillAnswer}
use Rattle.file_parts.specs.Found.{FillsFound}
use Rattle.file_parts.proofs.FoundEnds.{finds_read, opened_found}
use Rattle.file_parts.proofs.PathLemmas.{sees_failed, sees_nothing, sees_wanting}
use Rattle.file_parts.proofs.found.find_opened.Goals as goal

pub returns-in_default : goal.returns-in_default
returns-in_default g c = opened_found c.args.part sees_nothing tt

pub new-opened-requires : goal.new-opened-requires
new-opened-requires g c =
    subst (λ (p : List ℕ). (b : List ℕ) × g.W.Truth.version p c.args.stamp b) (sym c.in-Ok.ensures.ok) c.requires.known

pub fill_found-end-requires-clause-file : goal.fill_found-end-requires-clause-file
fill_found-end-requires-clause-file g c = λ κs within.
    subst (λ o. g.T.Tree.opened o.file ≡ opened_name o) (sym c.new-opened.ensures)
    (c.requires.opened ∙ ap {B = NameFacts} (λ (p : List ℕ). stamped_name p c.args.stamp) (sym c.in-Ok.ensures.ok))

pub fill_found-end-requires-clause-unread : goal.fill_found-end-requires-clause-unread
fill_found-end-requires-clause-unread g c = λ κs within.
    subst (λ o. o.picture ≡ unread_picture o.stamp.size) (sym c.new-opened.ensures) refl

pub returns-in-Done : goal.returns-in-Done
returns-in-Done g c =
    let same = ap (λ o. opened_name o) c.new-opened.ensures
    ∙ ap {B = NameFacts} (λ (p : List ℕ). stamped_name p c.args.stamp) c.in-Ok.ensures.ok in
    finds_read c.args.part same c.fill_found-end.new.opened c.fill_found-end.ensures.name c.fill_found-end.ensures.file c.knows.ensures.holds
    (subst (λ (e : FillAnswer). FillsFound c.args.part g.T.Tree.told g.W.Truth.version (opened_name c.new-opened.result)
    (g.T.Tree.shows c.args.hand.now) (g.T.Tree.shows c.fill_found-end.new.hand) c.fill_found-end.new.opened.picture e) c.in-Done.is c.fill_found-end.ensures.fills)

pub returns-in-Failed : goal.returns-in-Failed
returns-in-Failed g c =
    let same = ap (λ o. opened_name o) c.new-opened.ensures
    ∙ ap {B = NameFacts} (λ (p : List ℕ). stamped_name p c.args.stamp) c.in-Ok.ensures.ok in
    opened_found c.args.part (sees_failed same
    (subst (λ (e : FillAnswer). FillsFound c.args.part g.T.Tree.told g.W.Truth.version (opened_name c.new-opened.result)
    (g.T.Tree.shows c.args.hand.now) (g.T.Tree.shows c.fill_found-end.new.hand) c.fill_found-end.new.opened.picture e) c.in-Failed.is c.fill_found-end.ensures.fills)
    refl) tt

pub returns-in-OutOfMemory : goal.returns-in-OutOfMemory
returns-in-OutOfMemory g c =
    let same = ap (λ o. opened_name o) c.new-opened.ensures
    ∙ ap {B = NameFacts} (λ (p : List ℕ). stamped_name p c.args.stamp) c.in-Ok.ensures.ok in
    opened_found c.args.part (sees_wanting same
    (subst (λ (e : FillAnswer). FillsFound c.args.part g.T.Tree.told g.W.Truth.version (opened_name c.new-opened.result)
    (g.T.Tree.shows c.args.hand.now) (g.T.Tree.shows c.fill_found-end.new.hand) c.fill_found-end.new.opened.picture e) c.in-OutOfMemory.is c.fill_found-end.ensures.fills)
    refl) tt
